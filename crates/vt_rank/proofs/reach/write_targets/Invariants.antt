use Rattle.vt_rank.proofs.ReachableRows.{IsWriting}
use Rattle.vt_rank.proofs.reach.write_targets.Given as goal

abbrev pub invariant-loop-node : goal.invariant-loop-node
invariant-loop-node l = IsWriting l.graph l.rows l.node
