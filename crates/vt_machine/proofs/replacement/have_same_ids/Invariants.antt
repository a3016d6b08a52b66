use Rattle.std.proofs.Common.{◌≡◌}
use Rattle.vt_machine.specs.Replacements.{ids_of_slots}
use Rattle.vt_machine.proofs.replacement.have_same_ids.Given as goal

abbrev pub invariant-loop-slot : goal.invariant-loop-slot
invariant-loop-slot l =
    (goal.iterator-loop-slot).can_next l.slot-iterator
    × (goal.iterator-loop-slot).is_finite l.slot-iterator
    × (ids_of_slots l.slot-iterator ≡ ids_of_slots l.others → ids_of_slots l.fn.left ≡ ids_of_slots l.fn.right)
