use Rattle.std.proofs.Common.{ℕ, ◌<◌, []}
use Rattle.vt_rank.specs.NodeSets.{IsIn, AreTargets}
use Rattle.vt_rank.specs.Searches.{IsSearch}
use Rattle.vt_rank.proofs.ranking.rank_with_rows.Given as goal

abbrev pub invariant-loop-node : goal.invariant-loop-node
invariant-loop-node l = record {
  targets : AreTargets l.graph l.rows;
  search : IsSearch l.graph l.search [];
  ranked : (n : ℕ) → n < l.node → IsIn l.search.ranked n;
}
