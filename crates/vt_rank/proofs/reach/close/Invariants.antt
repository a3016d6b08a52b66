use Rattle.vt_rank.proofs.ReachableRows.{IsClosing}
use Rattle.vt_rank.proofs.reach.close.Given as goal

abbrev pub invariant-loop-via : goal.invariant-loop-via
invariant-loop-via l = IsClosing l.graph l.rows l.via
