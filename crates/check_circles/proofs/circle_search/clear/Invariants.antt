use Rattle.std.proofs.Common.{◌≡◌, drop}
use Rattle.vt_rank.specs.Graphs.{lists}
use Rattle.check_circles.specs.Circles.{cleared}
use Rattle.check_circles.proofs.circle_search.clear.Given as goal

abbrev pub invariant-loop-node : goal.invariant-loop-node
invariant-loop-node l = record {
  nodes : cleared (drop l.node-index l.nodes) (lists l.graph.nodes) ≡ cleared l.nodes (lists l.fn.graph.nodes);
  groups : lists l.graph.groups ≡ lists l.fn.graph.groups;
  most : l.graph.most.items ≡ l.fn.graph.most.items;
}
