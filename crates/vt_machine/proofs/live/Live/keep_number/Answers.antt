use Rattle.std.proofs.Common.{◌∙◌}
use Rattle.vt_machine.specs.OperatorEntries.{with_number}
use Rattle.vt_machine.proofs.StateBeforeAndAfter.{key_stays, kind_stays}
use Rattle.vt_machine.proofs.MarksKept.{marks_cleared}
use Rattle.vt_machine.proofs.MacrosUnaffected.{numbers_plain, plain_runs, plain_shape}
use Rattle.vt_machine.proofs.live.Live.keep_number.Goals as goal

pub invariant_of-self : goal.invariant_of-self
invariant_of-self g c =
    let m = g.S.Store.contents c.self.inside.store in
    let n = g.S.Store.contents c.put_number.new.store in
    let shape = plain_shape m n c.args.place (with_number c.args.number) c.put_number.ensures (numbers_plain c.args.number) in (
      plain_runs m n c.args.place (with_number c.args.number) c.self.inside.index c.self.inside.levels c.put_number.ensures (numbers_plain c.args.number) c.self.invariant.0,
      kind_stays n m c.self.inside.working_set shape ∙ c.self.invariant.1,
      marks_cleared m n c.self.inside.are_marked c.self.inside.all_marked c.self.inside.marks.items shape c.self.invariant.2,
      key_stays m n c.self.inside.key shape c.self.invariant.3,
    )
