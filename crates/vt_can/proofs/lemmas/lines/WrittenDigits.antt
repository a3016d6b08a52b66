-- Written digits: hex digits in upper case, and decimal digits.
use Rattle.std.proofs.Common.{◌≡◌, ℕ, ◌+◌, ◌/◌, ◌%◌, ◌^◌, ◌<◌, ◌≤◌, List, [], ◌∷◌, length, map, slice_index, zero, suc, refl, ap, ◌∙◌, arith}
use Rattle.std.specs.Fmt.{decimal}
use Rattle.std.proofs.lemmas.Fmt.{decimal_digit, decimal_step, length-decimal-le}
use Rattle.std.proofs.lemmas.List.{length_push}
use Rattle.std.specs.Char.{to_ascii_uppercase}
use Rattle.hex.specs.Hex.{encode_with, encode_lower, encode_upper, lower_digits}

slice_index-map : (f : ℕ → ℕ) (xs : List ℕ) (i : ℕ) → f 0 ≡ 0 → slice_index (map f xs) i ≡ f (slice_index xs i)
slice_index-map f [] i e = rw e refl
slice_index-map f (x ∷ xs) zero e = refl
slice_index-map f (x ∷ xs) (suc i) e = slice_index-map f xs i e

map-encode_with : (f : ℕ → ℕ) (table bytes : List ℕ) → f 0 ≡ 0 → map f (encode_with table bytes) ≡ encode_with (map f table) bytes
unfolding encode_with
map-encode_with f table [] e = refl
map-encode_with f table (b ∷ bytes) e =
    let high = slice_index-map f table (b / 16) e in
    let low = slice_index-map f table (b % 16) e in
    let rest = map-encode_with f table bytes e in
    cc

pub uppercase-encode_lower : (bytes : List ℕ) → map to_ascii_uppercase (encode_lower bytes) ≡ encode_upper bytes
uppercase-encode_lower bytes = map-encode_with to_ascii_uppercase lower_digits bytes refl

-- ---- decimal digits

pub length-decimal-step : (n : ℕ) → 10 ≤ n → n < 2 ^ 64 → length (decimal n) ≡ length (decimal (n / 10)) + 1
length-decimal-step n ge fits = ap length (decimal_step n ge fits) ∙ length_push (decimal (n / 10)) (48 + n % 10)

pub length-decimal-one : (n : ℕ) → n < 10 → length (decimal n) ≡ 1
length-decimal-one n lt = ap length (decimal_digit n lt)

pub seconds-short : (time : ℕ) → time < 10 ^ 18 → length (decimal (time / 10 ^ 6)) ≤ 12
seconds-short time lt = length-decimal-le 12 (time / 10 ^ 6) (omega arith) (omega arith) (omega arith)
