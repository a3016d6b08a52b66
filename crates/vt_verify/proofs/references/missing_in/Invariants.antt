use Rattle.std.proofs.Common.{◌≡◌, map}
use Rattle.vt_kinds.specs.Records.{seen}
use Rattle.vt_verify.specs.Lists.{first_failing}
use Rattle.vt_stores.specs.Shapes.{shape_of}
use Rattle.vt_verify.specs.References.{is_there, of_slot, slot_references}
use Rattle.vt_verify.proofs.references.missing_in.Given as goal

abbrev pub invariant-loop-slot : goal.invariant-loop-slot
invariant-loop-slot l =
    (goal.iterator-loop-slot).can_next l.slot-iterator
    × (goal.iterator-loop-slot).is_finite l.slot-iterator
    × (first_failing (is_there (shape_of l.objects)) (slot_references (l.parent, seen l.object))
    ≡ first_failing (is_there (shape_of l.objects)) (map (of_slot l.parent) l.slot-iterator))
