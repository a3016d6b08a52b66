use Rattle.std.proofs.Common.{◌≡◌, drop, map}
use Rattle.log_expect.specs.Patterns.{fits, wildcard_or_byte}
use Rattle.log_expect.proofs.expectation.line_fits.Given as goal

abbrev pub invariant-loop-expected : goal.invariant-loop-expected
invariant-loop-expected l = fits (map wildcard_or_byte (drop l.expected-index l.expected)) l.left ≡ fits (map wildcard_or_byte l.expected) l.fn.line
