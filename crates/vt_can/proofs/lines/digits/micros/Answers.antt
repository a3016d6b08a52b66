use Rattle.std.proofs.Common.{ℕ, ◌/◌, inr, ap, ◌∙◌}
use Rattle.vt_can.proofs.lemmas.lines.Digits.{micros-nine}
use Rattle.vt_can.proofs.lines.digits.micros.Goals as goal

pub returns-in_ok-number : goal.returns-in_ok-number
returns-in_ok-number c =
    let is = c.in_ok-number.ensures in
    (inr is.0, ap (λ (n : ℕ). n / 1000) is.1 ∙ micros-nine c.args.fraction.now is.0.digits c.if-fraction-eq9.true)
