use Rattle.vt_rank.specs.Graphs.{triggered, lists}
use Rattle.check_circles.proofs.lemmas.Circles.{busy, IsCircling}
use Rattle.check_circles.proofs.circle_search.take_circles.Given as goal

abbrev pub invariant-loop-circle : goal.invariant-loop-circle
invariant-loop-circle l = IsCircling (triggered l.fn.graph) (triggered l.graph) l.found.items

abbrev pub decreases-loop-circle : goal.decreases-loop-circle
decreases-loop-circle l = busy (lists l.graph.nodes)
