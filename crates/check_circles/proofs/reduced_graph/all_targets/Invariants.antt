use Rattle.vt_rank.specs.Graphs.{lists, triggered}
use Rattle.check_circles.proofs.lemmas.ReducedGraphs.{AreRows}
use Rattle.check_circles.proofs.reduced_graph.all_targets.Given as goal

abbrev pub invariant-loop-node : goal.invariant-loop-node
invariant-loop-node l = AreRows (triggered l.graph) (lists l.rows) l.node
