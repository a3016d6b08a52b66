use Rattle.std.proofs.Common.{length}
use Rattle.log_expect.proofs.expectation.wildcards_by.Given as goal

abbrev pub decreases-loop-line : goal.decreases-loop-line
decreases-loop-line l = length l.rest
