use Rattle.std.proofs.Common.{sym}
use Rattle.log_expect.proofs.FirstExpected.{behind-newline, other-never, short-never}
use Rattle.log_expect.proofs.expectation.after_expected.Goals as goal

pub returns-in_err-first : goal.returns-in_err-first
returns-in_err-first c =
    rw c.from_residual.ensures (short-never c.args.line.now c.expected_in-has_wildcards.result.0.now c.args.printed.now c.expected_in-has_wildcards.result.1 c.expected_in-has_wildcards.ensures c.in_err-first.ensures.cases)

pub returns-then-not-line_fits : goal.returns-then-not-line_fits
returns-then-not-line_fits c =
    other-never c.args.line.now c.expected_in-has_wildcards.result.0.now c.args.printed.now c.in_ok-first.first.now c.in_ok-first.rest.now c.expected_in-has_wildcards.result.1
    c.expected_in-has_wildcards.ensures c.in_ok-first.ensures.cases (sym c.if-not-line_fits.ensures)

pub returns : goal.returns
returns c =
    behind-newline (λ rest. rest.now) c.args.line.now c.expected_in-has_wildcards.result.0.now c.args.printed.now c.in_ok-first.first.now c.in_ok-first.rest.now c.expected_in-has_wildcards.result.1
    c.strip_prefix.result c.expected_in-has_wildcards.ensures c.in_ok-first.ensures.cases (sym c.if-not-line_fits.ensures) c.strip_prefix.ensures.cases
