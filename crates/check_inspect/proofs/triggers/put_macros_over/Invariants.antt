use Rattle.std.proofs.Common.{◌≡◌, ℕ, ◌++◌, map, drop}
use Rattle.std.specs.List.{flat_map}
use Rattle.vt_kinds.specs.Records.{Seen}
use Rattle.vt_stores.specs.Stores.{seen_entry}
use Rattle.std.specs.Prelude.{filter, nat_lt, slice_index}
use Rattle.vt_chains.specs.Limits.{terminal}
use Rattle.vt_stores.specs.Shapes.{shape_of, fixed}
use Rattle.vt_verify.specs.Triggers.{run_by_name}
use Rattle.vt_verify.specs.Orders.{named_macros}
use Rattle.check_inspect.specs.Costs.{macro_finding, costs_too_much}
use Rattle.check_inspect.proofs.triggers.put_macros_over.Given as goal

abbrev pub invariant-loop-id : goal.invariant-loop-id
invariant-loop-id l =
    (map seen_entry l.id-items ≡ l.objects)
    × (l.findings.items ++ flat_map (λ e. (λ (o : ℕ × Seen). map macro_finding (filter (λ m. nat_lt terminal.steps (slice_index l.costs m)) (run_by_name o.0 (fixed o.1)))) (seen_entry e)) (drop l.id-index l.id-items) ≡ l.fn.findings.items ++ map macro_finding (filter (costs_too_much (shape_of l.objects)) (named_macros (shape_of l.objects))))
