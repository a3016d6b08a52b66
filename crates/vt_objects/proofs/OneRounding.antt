-- The rounded number is unique.
use Rattle.std.proofs.Common.{◌≡◌, ℕ, zero, suc, ◌+◌, ◌*◌, ◌^◌, ◌<◌, ◌≤◌, ℤ, pos, negsuc, ◌-ℤ◌, neg_ℤ, nat_abs, refl, sym, ap, ◌∙◌, arith, inl, inr}
use Rattle.std.proofs.Math.Nat.{mul-le-mul_right, pow-suc}
use Rattle.std.proofs.lemmas.Bool.{cases_lt}
use Rattle.vt_objects.specs.Decimals.{IsRounded, decimal_text, ShownIsOne}
use Rattle.vt_objects.proofs.Rounding.{apart, IsNearest, abs_pos, abs_neg, abs_of_neg}

-- ---- two nearest numbers are equal

below : (x a q r : ℕ) → 0 < a → q < r → IsNearest x a q → IsNearest x a r → ⊥
below x a q zero some lt one other = absurd (omega arith)
below x a q (suc k) some lt one other =
    let more : q * a ≤ k * a = mul-le-mul_right a (omega arith) in
    let next : suc k * a ≡ k * a + a = omega arith in
    let near = one.near in
    let far = other.near in
    let tie : 2 * apart (q * a) x ≡ a = omega arith in
    let reached = one.away tie in
    omega arith

nearest_is_one : (x a q r : ℕ) → 0 < a → IsNearest x a q → IsNearest x a r → q ≡ r
nearest_is_one x a q r some one other =
    elim (cases_lt q r) [
      | inl lt ↦ absurd (below x a q r some lt one other)
      | inr le ↦ elim (cases_lt r q) [
        | inl lt ↦ absurd (below x a r q some lt other one)
        | inr ge ↦ omega arith
      ]
    ]

-- ---- negative numbers

apart_above : (x y : ℕ) → nat_abs (pos x -ℤ neg_ℤ (pos y)) ≡ x + y
apart_above x zero = omega arith
apart_above x (suc y) = omega arith

apart_below : (x y : ℕ) → nat_abs (neg_ℤ (pos x) -ℤ pos y) ≡ x + y
apart_below zero zero = refl
apart_below zero (suc y) = let sum : apart 0 (suc y) ≡ 0 + suc y = omega arith in abs_pos 0 (suc y) ∙ sum
apart_below (suc x) zero = let sum : apart (suc x) 0 ≡ suc x + 0 = omega arith in abs_neg (suc x) 0 ∙ sum
apart_below (suc x) (suc y) = omega arith

-- ---- a rounded number and its magnitude

from_pos : (m places decimals q : ℕ) → IsRounded (pos m) places decimals (pos q) → IsNearest (m * 10 ^ decimals) (10 ^ places) q
from_pos m places decimals q is =
    let same = abs_pos (q * 10 ^ places) (m * 10 ^ decimals) in
    let near = is.near in
    record { near = omega (arith, same); away = λ tie. is.away (ap (λ (n : ℕ). 2 * n) same ∙ tie) }

from_neg : (m places decimals q : ℕ) → IsRounded (negsuc m) places decimals (negsuc q) → IsNearest (suc m * 10 ^ decimals) (10 ^ places) (suc q)
from_neg m places decimals q is =
    let same = abs_neg (suc q * 10 ^ places) (suc m * 10 ^ decimals) in
    let scaled = abs_of_neg (suc q * 10 ^ places) in
    let number = abs_of_neg (suc m * 10 ^ decimals) in
    let near : 2 * nat_abs (neg_ℤ (pos (suc q * 10 ^ places)) -ℤ neg_ℤ (pos (suc m * 10 ^ decimals))) ≤ 10 ^ places = is.near in
    record {
      near = omega (arith, same);
      away = λ tie. let far : nat_abs (neg_ℤ (pos (suc m * 10 ^ decimals))) ≤ nat_abs (neg_ℤ (pos (suc q * 10 ^ places))) = is.away (ap (λ (n : ℕ). 2 * n) same ∙ tie) in omega (arith, scaled, number);
    }

-- a nonnegative number never rounds to a negative one
not_below : (m places decimals q : ℕ) → 0 < 10 ^ places → IsRounded (pos m) places decimals (negsuc q) → ⊥
not_below m places decimals q some is =
    let same = apart_below (suc q * 10 ^ places) (m * 10 ^ decimals) in
    let near : 2 * nat_abs (neg_ℤ (pos (suc q * 10 ^ places)) -ℤ pos (m * 10 ^ decimals)) ≤ 10 ^ places = is.near in
    let more : suc q * 10 ^ places ≡ q * 10 ^ places + 10 ^ places = omega arith in
    omega (arith, same)

-- a negative number that rounds to zero has a magnitude whose nearest number is zero
to_zero : (m places decimals : ℕ) → IsRounded (negsuc m) places decimals (pos 0) → IsNearest (suc m * 10 ^ decimals) (10 ^ places) 0
to_zero m places decimals is =
    let none : 0 * 10 ^ places ≡ 0 = omega arith in
    let same = apart_above (0 * 10 ^ places) (suc m * 10 ^ decimals) in
    let number = abs_of_neg (suc m * 10 ^ decimals) in
    let near : 2 * nat_abs (pos (0 * 10 ^ places) -ℤ neg_ℤ (pos (suc m * 10 ^ decimals))) ≤ 10 ^ places = is.near in
    record {
      near = omega (arith, same);
      away = λ tie. let far : nat_abs (neg_ℤ (pos (suc m * 10 ^ decimals))) ≤ 0 * 10 ^ places = is.away (omega (arith, same)) in omega (arith, number);
    }

not_above : (m places decimals q : ℕ) → 0 < 10 ^ places → IsRounded (negsuc m) places decimals (pos (suc q)) → ⊥
not_above m places decimals q some is =
    let same = apart_above (suc q * 10 ^ places) (suc m * 10 ^ decimals) in
    let near : 2 * nat_abs (pos (suc q * 10 ^ places) -ℤ neg_ℤ (pos (suc m * 10 ^ decimals))) ≤ 10 ^ places = is.near in
    let more : suc q * 10 ^ places ≡ q * 10 ^ places + 10 ^ places = omega arith in
    omega (arith, same)

-- ---- the text of a rounded number is unique

some_unit : (places : ℕ) → 0 < 10 ^ places
some_unit zero = omega arith
some_unit (suc places) =
    let before = some_unit places in
    let next : 10 ^ suc places ≡ 10 ^ places * 10 = pow-suc 10 places in
    omega arith

pub rounded_is_one : (n : ℤ) (places decimals : ℕ) (q r : ℤ) → IsRounded n places decimals q → IsRounded n places decimals r → q ≡ r
rounded_is_one (pos m) places decimals (pos q) (pos r) one other =
    ap pos (nearest_is_one (m * 10 ^ decimals) (10 ^ places) q r (some_unit places) (from_pos m places decimals q one) (from_pos m places decimals r other))
rounded_is_one (pos m) places decimals (pos q) (negsuc r) one other = absurd (not_below m places decimals r (some_unit places) other)
rounded_is_one (pos m) places decimals (negsuc q) r one other = absurd (not_below m places decimals q (some_unit places) one)
rounded_is_one (negsuc m) places decimals (pos zero) (pos zero) one other = refl
rounded_is_one (negsuc m) places decimals (pos zero) (pos (suc r)) one other = absurd (not_above m places decimals r (some_unit places) other)
rounded_is_one (negsuc m) places decimals (pos (suc q)) r one other = absurd (not_above m places decimals q (some_unit places) one)
rounded_is_one (negsuc m) places decimals (pos zero) (negsuc r) one other =
    let same = nearest_is_one (suc m * 10 ^ decimals) (10 ^ places) 0 (suc r) (some_unit places) (to_zero m places decimals one) (from_neg m places decimals r other) in
    absurd (omega arith)
rounded_is_one (negsuc m) places decimals (negsuc q) (pos zero) one other =
    let same = nearest_is_one (suc m * 10 ^ decimals) (10 ^ places) 0 (suc q) (some_unit places) (to_zero m places decimals other) (from_neg m places decimals q one) in
    absurd (omega arith)
rounded_is_one (negsuc m) places decimals (negsuc q) (pos (suc r)) one other = absurd (not_above m places decimals r (some_unit places) other)
rounded_is_one (negsuc m) places decimals (negsuc q) (negsuc r) one other =
    let same = nearest_is_one (suc m * 10 ^ decimals) (10 ^ places) (suc q) (suc r) (some_unit places) (from_neg m places decimals q one) (from_neg m places decimals r other) in
    let less : q ≡ r = omega arith in
    ap negsuc less

pub shown_one : ShownIsOne
shown_one n places decimals a b one other =
    one.digits ∙ ap (decimal_text decimals) (rounded_is_one n places decimals one.rounded other.rounded one.is other.is) ∙ sym other.digits
