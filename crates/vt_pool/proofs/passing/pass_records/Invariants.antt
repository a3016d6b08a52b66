use Rattle.std.proofs.Common.{◌-◌, length}
use Rattle.vt_pool.specs.PoolUploads.{AreWholeTo}
use Rattle.vt_pool.proofs.passing.pass_records.Given as goal

abbrev pub invariant-loop-at : goal.invariant-loop-at
invariant-loop-at l = AreWholeTo l.pool l.at

abbrev pub decreases-loop-at : goal.decreases-loop-at
decreases-loop-at l = length l.pool - l.at
