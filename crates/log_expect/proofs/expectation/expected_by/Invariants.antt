use Rattle.std.proofs.Common.{◌≡◌, ◌++◌, length, map}
use Rattle.log_expect.specs.Expectations.{expected_by}
use Rattle.log_expect.specs.Patterns.{shown_byte}
use Rattle.vt_logs.specs.Lines.{lines_of}
use Rattle.log_expect.proofs.expectation.expected_by.Given as goal

abbrev pub invariant-loop-line : goal.invariant-loop-line
invariant-loop-line l = l.expected.items ++ map shown_byte (expected_by (lines_of l.rest)) ≡ map shown_byte (expected_by (lines_of l.text))

abbrev pub decreases-loop-line : goal.decreases-loop-line
decreases-loop-line l = length l.rest
