use Rattle.std.proofs.Common.{ℕ, ◌*◌, ◌^◌, sym, ap, ◌∙◌}
use Rattle.vt_dialogs.proofs.RawValues.{no_size}
use Rattle.vt_dialogs.proofs.typed.size_of.Goals as goal

pub returns-then-scaled-unit-ne0-clause-size : goal.returns-then-scaled-unit-ne0-clause-size
returns-then-scaled-unit-ne0-clause-size c = λ size is.
    no_size (c.args.typed.digits * c.power_of_ten.result) c.power_of_ten-unit.result size c.if-scaled-unit-ne0.true
    (ap (λ (n : ℕ). size * n) c.power_of_ten-unit.ensures.value ∙ is ∙ ap (λ (n : ℕ). c.args.typed.digits * n) (sym (c.power_of_ten.ensures.value ∙ ap (λ (n : ℕ). 10 ^ n) c.from.ensures)))
