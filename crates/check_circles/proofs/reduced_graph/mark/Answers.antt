use Rattle.std.proofs.Common.{◌<◌, ℕ, [], ◌∷◌, length, true, set, ◌∙◌, subst, arith, rules}
use Rattle.std.proofs.lemmas.List.{length-set}
use Rattle.vt_rank.proofs.SetsAfterInsertions.{one_by_one}
use Rattle.check_circles.specs.ReducedGraphs.{Marks}
use Rattle.check_circles.proofs.lemmas.Marks.{marking_begins, marking_more, marking_done, marked_one}
use Rattle.check_circles.proofs.reduced_graph.mark.Goals as goal

pub loop-node-init : goal.loop-node-init
loop-node-init c = marking_begins _ _ _ (search rules)

pub loop-node-preserved : goal.loop-node-preserved
loop-node-preserved c =
    let marks = c.loop-node.marks in
    let node = c.from.result in
    let small : node < length marks = omega (arith, c.type_inv.nodes c.loop-node.node-index, c.from.ensures, c.loop-node.invariant.size) in
    marking_more _ _ _ 0 _ _ _ c.loop-node-test.true (length-set marks node true ∙ c.loop-node.invariant.size) c.loop-node.invariant
    (subst (λ (n : ℕ). Marks marks (set marks node true) (n ∷ [])) c.from.ensures (marked_one marks node small))

pub returns : goal.returns
returns c =
    subst (Marks c.args.marks.now c.loop-node.marks) (one_by_one c.args.nodes.now) (marking_done _ _ _ _ _ c.loop-node-test.false c.loop-node.invariant)
