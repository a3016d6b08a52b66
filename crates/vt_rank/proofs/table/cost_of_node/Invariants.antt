use Rattle.std.proofs.Common.{◌≡◌, ◌+◌, ◌≤◌, min, drop}
use Rattle.std.specs.List.{sum_by}
use Rattle.vt_rank.specs.Costs.{item_cost, node_total, cost_of}
use Rattle.vt_rank.specs.Tables.{IsMost}
use Rattle.vt_rank.proofs.table.cost_of_node.Given as goal

abbrev pub invariant-loop-item : goal.invariant-loop-item
invariant-loop-item l = record {
  cut : l.total ≤ l.limit;
  left : min (l.total + sum_by (item_cost (cost_of l.graph) l.graph) (drop l.item-index l.item-items)) l.limit ≡ min (node_total (cost_of l.graph) l.graph l.node) l.limit;
  most : IsMost l.graph l.limit l.most;
}
