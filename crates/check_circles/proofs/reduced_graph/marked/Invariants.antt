use Rattle.check_circles.proofs.lemmas.Marks.{AreMarkedBelow}
use Rattle.check_circles.proofs.reduced_graph.marked.Given as goal

abbrev pub invariant-loop-node : goal.invariant-loop-node
invariant-loop-node l = AreMarkedBelow l.marks l.node l.nodes.items
