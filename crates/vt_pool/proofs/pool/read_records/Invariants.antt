use Rattle.std.proofs.Common.{◌≤◌, length}
use Rattle.vt_pool.proofs.Progress.{IsReadUpTo}
use Rattle.vt_pool.proofs.pool.read_records.Given as goal

abbrev pub invariant-loop-rest : goal.invariant-loop-rest
invariant-loop-rest l = record {
  within : length l.rest ≤ length l.bytes;
  so_far : IsReadUpTo l.bytes l.rest l.pool;
}

abbrev pub decreases-loop-rest : goal.decreases-loop-rest
decreases-loop-rest l = length l.rest
