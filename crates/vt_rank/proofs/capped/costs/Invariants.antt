use Rattle.vt_rank.specs.Tables.{IsFilled, IsMost}
use Rattle.vt_rank.proofs.capped.costs.Given as goal

abbrev pub invariant-loop-rank : goal.invariant-loop-rank
invariant-loop-rank l = record {
  filled : IsFilled l.graph l.ranks l.limit l.rank l.table;
  most : IsMost l.graph l.limit l.most;
}
