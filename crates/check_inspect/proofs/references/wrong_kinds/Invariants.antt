use Rattle.std.proofs.Common.{◌≡◌, ℕ, ◌++◌, map, drop}
use Rattle.std.specs.List.{flat_map}
use Rattle.vt_kinds.specs.Records.{Seen}
use Rattle.vt_stores.specs.Stores.{seen_entry}
use Rattle.vt_stores.specs.Shapes.{shape_of}
use Rattle.vt_verify.specs.declared.reference.Test.TheVariants.{Fits}
use Rattle.check_inspect.specs.Lists.{all_failing}
use Rattle.check_inspect.specs.References.{passes_at, slot_values_at, wrong_kinds_at}
use Rattle.check_inspect.proofs.references.wrong_kinds.Given as goal

abbrev pub invariant-loop-id : goal.invariant-loop-id
invariant-loop-id l =
    (map seen_entry l.id-items ≡ l.objects)
    × (l.found.items ++ flat_map (λ e. (λ (o : ℕ × Seen). all_failing (passes_at Fits (shape_of l.objects)) (slot_values_at l.objects o)) (seen_entry e)) (drop l.id-index l.id-items) ≡ wrong_kinds_at l.objects)
