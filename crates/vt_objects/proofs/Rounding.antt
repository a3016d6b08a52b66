-- The nearest whole number of a quotient, and its decimal text.
use Rattle.std.proofs.Common.{◌≡◌, ℕ, zero, suc, ◌+◌, ◌-◌, ◌*◌, ◌/◌, ◌%◌, ◌^◌, ◌<◌, ◌≤◌, ℤ, pos, negsuc, ◌-ℤ◌, ◌*ℤ◌, neg_ℤ, nat_abs, Bool, true, false, cond, ltb, ◌&&◌, List, [], ◌++◌, codes, refl, sym, ap, subst, ◌∙◌, arith, inl, inr}
use Rattle.std.proofs.Math.Nat.{mod-lt, div-add-mod, div-le_of_le-mul}
use Rattle.std.proofs.lemmas.Bool.{ltb-true, ltb-false, le-ltb, lt-ltb, cases_lt}
use Rattle.std.specs.Prelude.{int_lt, nat_lt}
use Rattle.std.specs.Fmt.{decimal}
use Rattle.vt_objects.specs.Decimals.{IsRounded, IsShownText, decimal_text, fraction_text, signed_text, shown_text}

-- ---- the distance of two numbers

-- the distance of two numbers: one of the two differences is 0
abbrev pub apart : ℕ → ℕ → ℕ
apart x y = (x - y) + (y - x)

sub_cases : (b : Bool) (x y : ℕ) → ltb x (suc y) ≡ b → nat_abs (cond b (negsuc (suc y - suc x)) (pos (x - suc y))) ≡ apart x (suc y)
sub_cases true x y is = let lt = ltb-true x (suc y) is in omega arith
sub_cases false x y is = let le = ltb-false x (suc y) is in omega arith

pub abs_pos : (x y : ℕ) → nat_abs (pos x -ℤ pos y) ≡ apart x y
abs_pos x zero = omega arith
abs_pos x (suc y) = sub_cases (ltb x (suc y)) x y refl

sum_cases : (b : Bool) (x y : ℕ) → ltb y (suc x) ≡ b → nat_abs (cond b (negsuc (suc x - suc y)) (pos (y - suc x))) ≡ apart (suc x) y
sum_cases true x y is = let lt = ltb-true y (suc x) is in omega arith
sum_cases false x y is = let le = ltb-false y (suc x) is in omega arith

pub abs_neg : (x y : ℕ) → nat_abs (neg_ℤ (pos x) -ℤ neg_ℤ (pos y)) ≡ apart x y
abs_neg zero zero = refl
abs_neg zero (suc y) = omega arith
abs_neg (suc x) zero = sum_cases (ltb 0 (suc x)) x 0 refl
abs_neg (suc x) (suc y) = sum_cases (ltb (suc y) (suc x)) x (suc y) refl

pub abs_of_neg : (x : ℕ) → nat_abs (neg_ℤ (pos x)) ≡ x
abs_of_neg zero = refl
abs_of_neg (suc x) = refl

neg_times : (q a : ℕ) → neg_ℤ (pos q) *ℤ pos a ≡ neg_ℤ (pos (q * a))
neg_times zero a = let none : 0 * a ≡ 0 = omega arith in rw none refl
neg_times (suc q) a = refl

-- ---- the nearest whole number

-- q is x divided by a, rounded half up
pub record IsNearest (x a q : ℕ) : Type 0 where
  pub near : 2 * apart (q * a) x ≤ a
  pub away : 2 * apart (q * a) x ≡ a → x ≤ q * a

nearest : (x a q : ℕ) → 0 < a → q ≡ (2 * x + a) / (2 * a) → IsNearest x a q
nearest x a q some is =
    let y = 2 * x + a in
    let twice : 0 < 2 * a = omega arith in
    let whole : 2 * a * q + y % (2 * a) ≡ y = ap (λ (n : ℕ). 2 * a * n + y % (2 * a)) is ∙ div-add-mod y (2 * a) in
    let below : y % (2 * a) < 2 * a = mod-lt y twice in
    let same : 2 * a * q ≡ 2 * (q * a) = omega arith in
    record { near = omega arith; away = λ e. omega arith }

at_most : (x b q r : ℕ) → 2 * suc b * q + r ≡ 2 * x + suc b → q ≤ x
at_most x b zero r e = omega arith
at_most x b (suc k) r e =
    elim (cases_lt k x) [
      | inl lt ↦ omega arith
      | inr le ↦ let more : 2 * suc b * suc k ≡ 2 + 2 * k + 2 * b + 2 * (b * k) = omega arith in absurd (omega arith)
    ]

nearest_at_most : (x a : ℕ) → 0 < a → (2 * x + a) / (2 * a) ≤ x
nearest_at_most x zero some = absurd (omega arith)
nearest_at_most x (suc b) some = at_most x b ((2 * x + suc b) / (2 * suc b)) ((2 * x + suc b) % (2 * suc b)) (div-add-mod (2 * x + suc b) (2 * suc b))

-- the integer digits of a rounded number fit below 10 ^ 10
pub whole_below : (number unit a : ℕ) → 0 < a → number < 2 ^ 33 → (2 * (number * unit) + a) / (2 * a) / unit < 10 ^ 10
whole_below number unit a some small =
    let most : (2 * (number * unit) + a) / (2 * a) ≤ unit * number = let m = nearest_at_most (number * unit) a some in omega arith in
    let below = div-le_of_le-mul unit {m = (2 * (number * unit) + a) / (2 * a)} {n = number} most in
    omega arith

pub rounded_pos : (m places decimals q : ℕ) → IsNearest (m * 10 ^ decimals) (10 ^ places) q → IsRounded (pos m) places decimals (pos q)
rounded_pos m places decimals q is =
    let apart_is = abs_pos (q * 10 ^ places) (m * 10 ^ decimals) in
    record { near = rw apart_is is.near; away = λ e. is.away (ap (λ (n : ℕ). 2 * n) (sym apart_is) ∙ e) }

pub rounded_neg : (m places decimals q : ℕ) → IsNearest (m * 10 ^ decimals) (10 ^ places) q → IsRounded (neg_ℤ (pos m)) places decimals (neg_ℤ (pos q))
rounded_neg m places decimals q is =
    let scaled = neg_times q (10 ^ places) in
    let number = neg_times m (10 ^ decimals) in
    let apart_is : nat_abs (neg_ℤ (pos q) *ℤ pos (10 ^ places) -ℤ neg_ℤ (pos m) *ℤ pos (10 ^ decimals)) ≡ apart (q * 10 ^ places) (m * 10 ^ decimals) =
    rw (scaled, number) (abs_neg (q * 10 ^ places) (m * 10 ^ decimals)) in
    record {
      near = rw apart_is is.near;
      away = λ e. rw (scaled, number, abs_of_neg (q * 10 ^ places), abs_of_neg (m * 10 ^ decimals)) (is.away (ap (λ (n : ℕ). 2 * n) (sym apart_is) ∙ e));
    }

-- ---- the text

abbrev pub text_of : Bool → ℕ → ℕ → List ℕ
text_of negative decimals q = cond negative (codes "-") [] ++ decimal (q / 10 ^ decimals) ++ fraction_text decimals q

text_pos : (decimals q : ℕ) → decimal_text decimals (pos q) ≡ text_of false decimals q
text_pos decimals q = let not_below : ltb q 0 ≡ false = le-ltb q 0 (omega arith) in rw not_below refl

text_neg : (decimals q : ℕ) → decimal_text decimals (neg_ℤ (pos q)) ≡ text_of (ltb 0 q) decimals q
text_neg decimals zero = text_pos decimals 0
text_neg decimals (suc q) = ap (λ (b : Bool). text_of b decimals (suc q)) (sym (lt-ltb 0 (suc q) (omega arith)))

pub is_shown : (n : ℤ) (places decimals m q : ℕ) (negative : Bool) (text : List ℕ) → m ≡ nat_abs n → 0 < 10 ^ places → q ≡ (2 * (m * 10 ^ decimals) + 10 ^ places) / (2 * 10 ^ places)
    → negative ≡ (int_lt n (pos 0) && ltb 0 q) → text ≡ text_of negative decimals q → IsShownText n places decimals text
is_shown (pos n) places decimals m q negative text size some is sign digits =
    let near = nearest (m * 10 ^ decimals) (10 ^ places) q some is in
    record {
      rounded = pos q;
      is = rounded_pos n places decimals q (subst (λ (k : ℕ). IsNearest (k * 10 ^ decimals) (10 ^ places) q) size near);
      digits = digits ∙ ap (λ (b : Bool). text_of b decimals q) (sign ∙ ap (λ (b : Bool). b && ltb 0 q) (le-ltb n 0 (omega arith))) ∙ sym (text_pos decimals q);
    }
is_shown (negsuc n) places decimals m q negative text size some is sign digits =
    let near = nearest (m * 10 ^ decimals) (10 ^ places) q some is in
    record {
      rounded = neg_ℤ (pos q);
      is = rounded_neg (suc n) places decimals q (subst (λ (k : ℕ). IsNearest (k * 10 ^ decimals) (10 ^ places) q) size near);
      digits = digits ∙ ap (λ (b : Bool). text_of b decimals q) sign ∙ sym (text_neg decimals q);
    }

-- the written text is shown_text
pub shown_text_is : (n : ℤ) (places decimals m q : ℕ) (negative : Bool) (text : List ℕ) → m ≡ nat_abs n
    → q ≡ (2 * (m * 10 ^ decimals) + 10 ^ places) / (2 * 10 ^ places)
    → negative ≡ (int_lt n (pos 0) && nat_lt 0 q)
    → text ≡ cond negative (codes "-") [] ++ decimal (q / 10 ^ decimals) ++ fraction_text decimals q
    → text ≡ shown_text n places decimals
unfolding shown_text
shown_text_is n places decimals m q negative text size nearest sign digits =
    digits
    ∙ ap (λ (b : Bool). cond b (codes "-") [] ++ decimal (q / 10 ^ decimals) ++ fraction_text decimals q) sign
    ∙ ap (signed_text n decimals) (nearest ∙ ap (λ (k : ℕ). (2 * (k * 10 ^ decimals) + 10 ^ places) / (2 * 10 ^ places)) size)
