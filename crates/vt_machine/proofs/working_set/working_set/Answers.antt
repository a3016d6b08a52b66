use Rattle.std.proofs.Common.{sym}
use Rattle.vt_machine.proofs.StateBeforeAndAfter.{set_found}
use Rattle.vt_machine.proofs.working_set.working_set.Goals as goal

pub returns-then-is_working_set-clause-some : goal.returns-then-is_working_set-clause-some
returns-then-is_working_set-clause-some c =
    set_found c.args.objects.now c.loop-id.id-index c.loop-id-item.result _ c.loop-id-item.is c.loop-id-test.true c.requires (sym c.if-is_working_set.ensures)
