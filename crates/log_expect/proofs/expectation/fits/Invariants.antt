use Rattle.std.proofs.Common.{◌≡◌, length}
use Rattle.log_expect.specs.Expectations.{expected_by}
use Rattle.log_expect.specs.Patterns.{fits}
use Rattle.vt_logs.specs.Lines.{lines_of}
use Rattle.log_expect.proofs.expectation.fits.Given as goal

abbrev pub invariant-loop-line : goal.invariant-loop-line
invariant-loop-line l = fits (expected_by (lines_of l.rest)) l.left ≡ fits (expected_by (lines_of l.text)) l.printed

abbrev pub decreases-loop-line : goal.decreases-loop-line
decreases-loop-line l = length l.rest
