use Rattle.std.proofs.Common.{◌≡◌, ◌≤◌, min, max, drop, slice_index}
use Rattle.vt_rank.specs.Costs.{greatest, group_total}
use Rattle.vt_rank.proofs.table.cost_of_most.Given as goal

abbrev pub invariant-loop-group : goal.invariant-loop-group
invariant-loop-group l = record {
  cut : l.greatest ≤ l.limit;
  left : min (max l.greatest (greatest (group_total (slice_index l.table) l.graph) (drop l.group-index l.group-items))) l.limit ≡ min (greatest (group_total (slice_index l.table) l.graph) l.graph.most.items) l.limit;
}
