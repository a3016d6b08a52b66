use Rattle.std.proofs.Common.{◌∙◌, Bool, sym, ap}
use Rattle.log_expect.proofs.Patterns.{fits-bytes, line-ends}
use Rattle.log_expect.specs.Patterns.{fits, pattern_of}
use Rattle.log_expect.proofs.expectation.line_fits.Goals as goal

pub returns-then-not-has_wildcards : goal.returns-then-not-has_wildcards
returns-then-not-has_wildcards c =
    c.eq.ensures ∙ sym (fits-bytes c.args.expected.now c.args.line.now)
    ∙ ap (λ (wild : Bool). fits (pattern_of wild c.args.expected.now) c.args.line.now) (sym c.if-not-has_wildcards.true)

pub returns-in_default : goal.returns-in_default
returns-in_default c =
    sym (line-ends c.loop-expected.expected-index c.args.expected.now c.loop-expected.left.now c.loop-expected-test.true c.in_default.ensures.cases)
    ∙ c.loop-expected.invariant
    ∙ ap (λ (wild : Bool). fits (pattern_of wild c.args.expected.now) c.args.line.now) (sym c.if-not-has_wildcards.false)
