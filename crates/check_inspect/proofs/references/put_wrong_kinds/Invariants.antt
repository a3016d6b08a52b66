use Rattle.std.proofs.Common.{◌≡◌, ◌++◌}
use Rattle.std.specs.List.{flat_map}
use Rattle.vt_kinds.specs.Records.{seen}
use Rattle.vt_stores.specs.Shapes.{shape_of}
use Rattle.check_inspect.specs.Lists.{all_failing}
use Rattle.vt_verify.specs.declared.reference.Test.TheVariants.{Fits}
use Rattle.check_inspect.specs.References.{passes_at, values_at, slot_values_at}
use Rattle.check_inspect.proofs.references.put_wrong_kinds.Given as goal

abbrev pub invariant-loop-slot : goal.invariant-loop-slot
invariant-loop-slot l =
    (goal.iterator-loop-slot).can_next l.slot-iterator
    × (goal.iterator-loop-slot).is_finite l.slot-iterator
    × (l.found.items ++ flat_map (λ s. all_failing (passes_at Fits (shape_of l.objects)) (values_at l.objects l.parent s)) l.slot-iterator ≡ l.fn.found.items ++ all_failing (passes_at Fits (shape_of l.objects)) (slot_values_at l.objects (l.parent, seen l.object)))
