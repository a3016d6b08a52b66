use Rattle.std.proofs.Common.{sym, ◌∙◌, arith}
use Rattle.vt_rank.proofs.CostTable.{filled_here, settled_here}
use Rattle.vt_rank.proofs.table.fill.Goals as goal

pub cost_of_node-cost-requires-clause-settled : goal.cost_of_node-cost-requires-clause-settled
cost_of_node-cost-requires-clause-settled c =
    settled_here _ _ _ _ _ c.requires.ranks c.requires.filled _ (sym c.of.ensures ∙ c.if-of-rank.true)

pub returns-then-of-rank-clause-filled : goal.returns-then-of-rank-clause-filled
returns-then-of-rank-clause-filled c =
    filled_here _ _ _ _ _ _ _ _ c.requires.ranks c.requires.filled c.node_of-node.ensures (sym c.of.ensures ∙ c.if-of-rank.true) (omega arith) c.from.ensures c.cost_of_node-cost.ensures.cost
