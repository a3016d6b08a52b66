use Rattle.std.proofs.Common.{◌≡◌, ◌==◌, ℕ, ◌∙◌, true, ap, below_more, eq-eqb, arith}
use Rattle.vt_rank.specs.NodeSets.{bit_of, row}
use Rattle.vt_rank.proofs.reach.least_on_circles.Goals as goal

pub loop-node-preserved : goal.loop-node-preserved
loop-node-preserved c =
    below_more _ _ c.loop-node.invariant (λ circle.
    let no = c.if-contains.false in
    let here = ap (λ (k : ℕ). bit_of (row c.close.new.rows k) c.loop-node.node == 1) c.from.ensures in
    let yes : c.contains.result ≡ true = c.contains.ensures ∙ here ∙ eq-eqb _ _ ((c.close.ensures c.loop-node.node c.loop-node.node).1 circle) in
    cc)

pub returns-clause-least : goal.returns-clause-least
returns-clause-least c = λ n less. c.loop-node.invariant n (omega (arith, less))
