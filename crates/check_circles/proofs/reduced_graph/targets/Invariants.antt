use Rattle.vt_rank.specs.Graphs.{nodes_of}
use Rattle.check_circles.proofs.lemmas.Marks.{IsMarking}
use Rattle.check_circles.proofs.reduced_graph.targets.Given as goal

abbrev pub invariant-loop-item : goal.invariant-loop-item
invariant-loop-item l = IsMarking (nodes_of l.graph) l.item-items l.item-index l.initial.marks l.marks
