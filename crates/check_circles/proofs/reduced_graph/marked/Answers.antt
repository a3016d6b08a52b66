use Rattle.std.proofs.Common.{ℕ, Vec, Global, ap, ◌∙◌}
use Rattle.check_circles.proofs.lemmas.Marks.{below_marked, below_unmarked}
use Rattle.check_circles.proofs.reduced_graph.marked.Goals as goal
use Rattle.check_circles.proofs.reduced_graph.marked.Goals.{then-marks-node+in_ok-push, else-marks-node}

pub loop-node-preserved : goal.loop-node-preserved
loop-node-preserved c =
    elim c.if-marks-node.branch [
      | then-marks-node+in_ok-push w ↦ below_marked _ _ _ _ w.if-marks-node.true (ap (λ (v : Vec ℕ Global). v.items) w.nodes-is ∙ w.in_ok-push.ensures.items) c.loop-node.invariant
      | else-marks-node w ↦ below_unmarked _ _ _ _ w.if-marks-node.false (ap (λ (v : Vec ℕ Global). v.items) w.nodes-is) c.loop-node.invariant
    ]
