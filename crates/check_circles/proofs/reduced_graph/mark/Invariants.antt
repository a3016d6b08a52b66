use Rattle.std.proofs.Common.{ℕ, [], ◌∷◌}
use Rattle.check_circles.proofs.lemmas.Marks.{IsMarking}
use Rattle.check_circles.proofs.reduced_graph.mark.Given as goal

abbrev pub invariant-loop-node : goal.invariant-loop-node
invariant-loop-node l = IsMarking (λ (n : ℕ). n ∷ []) l.nodes l.node-index l.fn.marks l.marks
