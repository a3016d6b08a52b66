use Rattle.vt_rank.specs.Graphs.{group_of}
use Rattle.check_circles.proofs.lemmas.Marks.{IsMarking}
use Rattle.check_circles.proofs.reduced_graph.targets_of_most.Given as goal

abbrev pub invariant-loop-group : goal.invariant-loop-group
invariant-loop-group l = IsMarking (group_of l.graph) l.group-items l.group-index l.initial.marks l.marks
