use Rattle.std.proofs.Common.{arith}
use Rattle.vt_rank.proofs.PathsAndCircles.{no_circle}
use Rattle.vt_rank.proofs.RankSearch.{all_ranked}
use Rattle.vt_rank.proofs.ranking.rank_with_rows.Goals as goal

pub loop-node-init : goal.loop-node-init
loop-node-init c = record {
  targets = c.write_targets.ensures;
  search = c.new-search.ensures c.args.graph.now;
  ranked = λ n less. absurd (omega (arith, less));
}

pub returns-clause-falls : goal.returns-clause-falls
returns-clause-falls c =
    all_ranked c.args.graph.now c.loop-node.search c.loop-node.invariant.search (λ n less. c.loop-node.invariant.ranked n (omega (arith, less)))

pub returns-clause-none : goal.returns-clause-none
returns-clause-none c =
    no_circle c.args.graph.now c.loop-node.search.ranks (all_ranked c.args.graph.now c.loop-node.search c.loop-node.invariant.search (λ n less. c.loop-node.invariant.ranked n (omega (arith, less)))).falls
