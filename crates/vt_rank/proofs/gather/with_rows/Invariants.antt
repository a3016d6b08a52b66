use Rattle.vt_rank.proofs.ReachedNodes.{IsGathering}
use Rattle.vt_rank.proofs.gather.with_rows.Given as goal

abbrev pub invariant-loop-node : goal.invariant-loop-node
invariant-loop-node l = IsGathering l.rows l.nodes l.node-index l.set
