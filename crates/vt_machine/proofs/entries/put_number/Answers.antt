use Rattle.vt_kinds.specs.Records.{seen}
use Rattle.vt_machine.specs.OperatorEntries.{with_number}
use Rattle.vt_machine.proofs.MacrosUnaffected.{put_changed}
use Rattle.vt_machine.proofs.entries.put_number.Goals as goal

pub returns-in-Some : goal.returns-in-Some
returns-in-Some g c =
    put_changed (g.S.Store.contents c.args.store.now) _ c.args.id (with_number c.args.number) (seen c.in-Some.object.now) (seen c.set_number.new.object)
    c.in-Some.ensures.value (c.get_mut.follows.holds c.set_number.new.object) c.set_number.ensures
