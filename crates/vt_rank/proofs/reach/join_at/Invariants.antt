use Rattle.vt_rank.proofs.ReachableRows.{IsJoining}
use Rattle.vt_rank.proofs.reach.join_at.Given as goal

abbrev pub invariant-loop-node : goal.invariant-loop-node
invariant-loop-node l = IsJoining l.fn.rows l.rows l.via l.node
