use Rattle.std.proofs.Common.{◌≡◌, ℕ, ◌++◌, map, drop}
use Rattle.std.specs.List.{flat_map}
use Rattle.vt_kinds.specs.Records.{Seen}
use Rattle.vt_stores.specs.Stores.{seen_entry}
use Rattle.vt_stores.specs.Shapes.{shape_of, fixed}
use Rattle.check_inspect.specs.Lists.{all_failing}
use Rattle.check_inspect.specs.References.{passes_at, own_references_at, failing_targets_at}
use Rattle.check_inspect.proofs.targets.failing_targets.Given as goal

abbrev pub invariant-loop-id : goal.invariant-loop-id
invariant-loop-id l =
    (map seen_entry l.id-items ≡ l.objects)
    × (l.found.items ++ flat_map (λ e. (λ (o : ℕ × Seen). all_failing (passes_at l.test (shape_of l.objects)) (own_references_at (shape_of l.objects) (o.0, fixed o.1))) (seen_entry e)) (drop l.id-index l.id-items) ≡ failing_targets_at l.test (shape_of l.objects))
