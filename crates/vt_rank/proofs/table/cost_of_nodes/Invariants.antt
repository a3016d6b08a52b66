use Rattle.std.proofs.Common.{◌≡◌, ◌+◌, ◌≤◌, min, drop, slice_index}
use Rattle.std.specs.List.{sum_by}
use Rattle.vt_rank.proofs.table.cost_of_nodes.Given as goal

abbrev pub invariant-loop-node : goal.invariant-loop-node
invariant-loop-node l = record {
  cut : l.total ≤ l.limit;
  left : min (l.total + sum_by (slice_index l.table) (drop l.node-index l.nodes)) l.limit ≡ min (sum_by (slice_index l.table) l.nodes) l.limit;
}
