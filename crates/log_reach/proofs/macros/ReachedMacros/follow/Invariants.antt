use Rattle.std.proofs.Common.{length}
use Rattle.log_reach.proofs.macros.ReachedMacros.follow.Given as goal

abbrev pub decreases-loop-piece : goal.decreases-loop-piece
decreases-loop-piece l = length l.rest
