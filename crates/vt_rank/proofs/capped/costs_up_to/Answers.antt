use Rattle.std.proofs.Common.{◌≡◌, ℕ, ◌+◌, ◌-◌, subst, sym, arith}
use Rattle.vt_rank.specs.Costs.{AreCostsUpTo}
use Rattle.vt_rank.specs.Tables.{IsFilled}
use Rattle.vt_rank.proofs.CostTable.{full}
use Rattle.vt_rank.proofs.capped.costs_up_to.Goals as goal

pub returns : goal.returns
returns c =
    let above = c.requires.limit in
    let one : c.args.limit ≡ (c.args.limit - 1) + 1 = omega arith in
    let filled = subst (λ (k : ℕ). IsFilled c.args.graph.now c.args.ranks.now k c.loop-rank.rank c.loop-rank.table) one c.loop-rank.invariant.filled in
    subst (λ (k : ℕ). AreCostsUpTo c.args.graph.now k c.loop-rank.table) (sym one)
    (full c.args.graph.now c.args.ranks.now (c.args.limit - 1) c.loop-rank.rank c.loop-rank.table c.requires.ranks filled c.loop-rank-test.false).costs
