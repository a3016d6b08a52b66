-- The numbers of typed digits.
use Rattle.std.proofs.Common.{◌≡◌, ℕ, ◌+◌, ◌*◌, ◌^◌, ◌<◌, ◌≤◌, true, List, [], ◌∷◌, length, arith}
use Rattle.std.specs.Char.{digit_value, is_ascii_digit}
use Rattle.std.specs.List.{AllPass}
use Rattle.std.specs.Str.Parse.{AllDigits, digits_value}
use Rattle.std.proofs.Math.Nat.{mul-le-mul_right, pow-le-pow_right}
use Rattle.std.proofs.lemmas.Int.Digits.{digits_value-lt}
use Rattle.std.proofs.lemmas.List.Elements.{All-head, All-tail}
use Rattle.std.proofs.lemmas.Nat.{pow-add}

pub digit_value-is : (c : ℕ) → is_ascii_digit c ≡ true → (digit_value c < 10) × (48 ≤ c) × (c ≡ digit_value c + 48)
digit_value-is c h = (grind arith, grind arith, grind arith)

all_digits : (text : List ℕ) → AllPass is_ascii_digit text → AllDigits 10 text
all_digits [] h = tt
all_digits (c ∷ text) h = (
  (digit_value-is c (All-head (λ x. is_ascii_digit x ≡ true) c text h)).0,
  all_digits text (All-tail (λ x. is_ascii_digit x ≡ true) c text h),
)

pub value_below : (text : List ℕ) → AllPass is_ascii_digit text → digits_value 10 text < 10 ^ length text
value_below text pass = digits_value-lt 10 text (all_digits text pass)

-- a number of so many digits has at most that many
pub below_power : (n k most : ℕ) → n < 10 ^ k → k ≤ most → n < 10 ^ most
below_power n k most lt le =
    let power : 10 ^ k ≤ 10 ^ most = pow-le-pow_right {n = 10} (omega arith) {i = k} {j = most} le in
    omega arith

-- two numbers, the second in the places behind the first
pub both_below : (a b i j : ℕ) → a < 10 ^ i → b < 10 ^ j → i + j ≤ 15 → a * 10 ^ j + b < 10 ^ 15
both_below a b i j la lb le =
    let whole : (a + 1) * 10 ^ j ≤ 10 ^ i * 10 ^ j = mul-le-mul_right {m = a + 1} {n = 10 ^ i} (10 ^ j) (omega (arith, la)) in
    let sum : 10 ^ (i + j) ≡ 10 ^ i * 10 ^ j = pow-add 10 i j in
    let power : 10 ^ (i + j) ≤ 10 ^ 15 = pow-le-pow_right {n = 10} (omega arith) {i = i + j} {j = 15} le in
    let more : (a + 1) * 10 ^ j ≡ a * 10 ^ j + 10 ^ j = grind arith in
    omega (arith, whole, sum, power, more)
