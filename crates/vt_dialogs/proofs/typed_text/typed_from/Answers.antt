use Rattle.std.proofs.Common.{ℕ, ◌+◌, ◌*◌, ◌^◌, ◌<◌, length, sym, subst, arith}
use Rattle.vt_dialogs.proofs.TypedDigits.{both_below}
use Rattle.vt_dialogs.proofs.typed_text.typed_from.Goals as goal
use Rattle.vt_dialogs.proofs.typed_text.typed_from.Goals.{After-pow}

below : (c : After-pow) → c.in_ok-digits.digits * c.pow.result + c.in_ok-behind.behind < 10 ^ 15
below c =
    let both = both_below c.in_ok-digits.digits c.in_ok-behind.behind (length c.parts_of.result.0.now) (length c.in-Some.fraction.now)
    c.in_ok-digits.ensures.most c.in_ok-behind.ensures.most c.if-whole-fraction-gt15.false in
    subst (λ (power : ℕ). c.in_ok-digits.digits * power + c.in_ok-behind.behind < 10 ^ 15) (sym c.pow.ensures) both

pub overflow_mul-result : goal.overflow_mul-result
overflow_mul-result c = let small = below c in omega (arith, small)

pub overflow_add-result : goal.overflow_add-result
overflow_add-result c = let small = below ((goal.at.overflow_add-result c).After-pow) in omega (arith, small)
