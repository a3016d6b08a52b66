use Rattle.std.proofs.Common.{◌<◌, ℕ, sym, subst}
use Rattle.vt_dialogs.proofs.RawValues.{some_power}
use Rattle.vt_dialogs.proofs.typed.power_of_ten.Goals as goal

pub returns-clause-some : goal.returns-clause-some
returns-clause-some c = subst (λ (n : ℕ). 0 < n) (sym c.pow.ensures) (some_power c.args.exponent)
