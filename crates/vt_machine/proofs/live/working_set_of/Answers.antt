use Rattle.std.proofs.Common.{refl}
use Rattle.vt_stores.specs.Stores.{map_of}
use Rattle.vt_machine.proofs.StateBeforeAndAfter.{stored_set}
use Rattle.vt_machine.proofs.live.working_set_of.Goals as goal

pub returns : goal.returns
returns c =
    stored_set (map_of c.args.accepted.now) c.objects.result.now c.args.accepted.now c.in-Some.id refl
    c.objects.ensures.all c.objects.ensures.stored c.in-Some.ensures.some
