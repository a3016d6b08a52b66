use Rattle.std.proofs.Common.{◌≡◌, false, ◌++◌, drop}
use Rattle.std.specs.Prelude.{filter, slice_index_or}
use Rattle.check_costs.proofs.runnable.of_order.Given as goal

abbrev pub invariant-loop-id : goal.invariant-loop-id
invariant-loop-id l =
    l.ids.items ++ filter (λ id. slice_index_or l.marks id false) (drop l.id-index l.order) ≡ filter (λ id. slice_index_or l.marks id false) l.order
