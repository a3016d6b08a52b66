-- Values of decimal and hex digits.
use Rattle.std.proofs.Common.{◌≡◌, ℕ, ◌+◌, ◌/◌, ◌%◌, ◌^◌, ◌<◌, ◌≤◌, true, false, ltb, List, [], ◌∷◌, length, get_or, take, Some, Result, Ok, Err, refl, sym, ap, ◌∙◌, inl, inr, arith}
use Rattle.std.specs.Result.{result_ok}
use Rattle.std.specs.Char.{digit_value, is_ascii_digit}
use Rattle.std.specs.List.{AllPass, list_all}
use Rattle.std.specs.Str.Parse.{AllDigits, digits_value}
use Rattle.std.proofs.Math.Nat.{pow-le-pow_right}
use Rattle.std.proofs.lemmas.Bool.{both_ways, cond-false, cond-true, le-ltb, lt-ltb}
use Rattle.std.proofs.lemmas.Int.Digits.{digits_value-lt, digits_value_more}
use Rattle.std.proofs.lemmas.List.{take_all}
use Rattle.std.proofs.lemmas.List.Elements.{All-head, All-tail}
use Rattle.std.proofs.lemmas.List.Sums.{AllPass-from_list_all, list_all-from_AllPass}
use Rattle.hex.specs.Hex.{decode_of, decode_sized, is_hex_digit}
use Rattle.hex.specs.declared.error.FromHexError.{FromHexError}
use Rattle.hex.proofs.HexLemmas.{decode_of-digits, decode_of-odd, decode_of-ok, decode_sized-ok, decode_sized-twice}
use Rattle.vt_can.specs.declared.lines.line.LineFault.TheVariants.{Hex, Length}
use Rattle.vt_can.specs.lines.Readings.{FrameAt}
use Rattle.vt_can.specs.lines.Line.{IsFraction, data_reading}

-- ---- decimal digits

pub digit_value-is : (c : ℕ) → is_ascii_digit c ≡ true → (digit_value c < 10) × (48 ≤ c) × (c ≡ digit_value c + 48)
digit_value-is c h = (grind arith, grind arith, grind arith)

AllDigits-from_pass : (text : List ℕ) → AllPass is_ascii_digit text → AllDigits 10 text
AllDigits-from_pass [] h = tt
AllDigits-from_pass (c ∷ text) h = (
  (digit_value-is c (All-head (λ x. is_ascii_digit x ≡ true) c text h)).0,
  AllDigits-from_pass text (All-tail (λ x. is_ascii_digit x ≡ true) c text h),
)

pub digits_value-small : (text : List ℕ) (most : ℕ) → AllPass is_ascii_digit text → length text ≤ most → digits_value 10 text < 10 ^ most
digits_value-small text most pass le =
    let below = digits_value-lt 10 text (AllDigits-from_pass text pass) in
    let power : 10 ^ length text ≤ 10 ^ most = pow-le-pow_right {n = 10} (omega arith) {i = length text} {j = most} le in
    omega arith

-- ---- hex digits

pub decode_sized-from : (text bytes : List ℕ) (n : ℕ) → decode_of text ≡ Ok bytes → length bytes ≡ n → decode_sized text n ≡ Ok bytes
decode_sized-from text bytes n e len =
    let ok = decode_of-ok text bytes e in
    decode_sized-twice text n (omega (arith, ok.2)) ∙ e

-- ---- a fraction of nine digits

-- a division by 1000 drops the last three of nine digits
pub micros-nine : (text : List ℕ) → AllPass is_ascii_digit text → length text ≡ 9 → digits_value 10 text / 1000 ≡ digits_value 10 (take 6 text)
micros-nine text pass len =
    let l6 : 6 < length text = omega arith in
    let l7 : 7 < length text = omega arith in
    let l8 : 8 < length text = omega arith in
    let a = digits_value_more 10 text 6 l6 in
    let b = digits_value_more 10 text 7 l7 in
    let c = digits_value_more 10 text 8 l8 in
    let da = (digit_value-is (get_or text 6 0) (pass 6 0 l6)).0 in
    let db = (digit_value-is (get_or text 7 0) (pass 7 0 l7)).0 in
    let dc = (digit_value-is (get_or text 8 0) (pass 8 0 l8)).0 in
    let all : digits_value 10 (take 9 text) ≡ digits_value 10 text = ap (digits_value 10) (take_all 9 text (omega arith)) in
    omega arith

pub micros-small : (text : List ℕ) → IsFraction text → digits_value 10 (take 6 text) < 10 ^ 6
micros-small text (inl six) =
    let all : digits_value 10 (take 6 text) ≡ digits_value 10 text = ap (digits_value 10) (take_all 6 text six.no_more) in
    let below = digits_value-small text 6 six.digits six.no_more in
    omega arith
micros-small text (inr nine) =
    let below = digits_value-small text 9 nine.digits nine.no_more in
    let low = nine.no_fewer in
    let high = nine.no_more in
    let same = micros-nine text nine.digits (omega arith) in
    omega arith

-- ---- the reading of data in hex digits

data_err : (text : List ℕ) (time id : ℕ) (r : Result (List ℕ) FromHexError) → decode_of text ≡ r → list_all is_hex_digit text ≡ false → data_reading time id r ≡ Err Hex
data_err text time id (Err e) is bad = refl
data_err text time id (Ok bytes) is bad =
    absurd (both_ways (list_all is_hex_digit text) bad (list_all-from_AllPass is_hex_digit text (decode_of-ok text bytes is).1))

pub data-bad : (text : List ℕ) → list_all is_hex_digit text ≡ false → (time id : ℕ) → data_reading time id (decode_of text) ≡ Err Hex
data-bad text bad time id = data_err text time id (decode_of text) refl bad

pub data-odd : (text : List ℕ) → length text % 2 ≡ 1 → (time id : ℕ) → data_reading time id (decode_of text) ≡ Err Hex
data-odd text odd time id = ap (λ (r : Result (List ℕ) FromHexError). data_reading time id r) (decode_of-odd text odd)

data-at : (text bytes : List ℕ) → decode_of text ≡ Ok bytes → (time id : ℕ) → data_reading time id (decode_of text) ≡ data_reading time id (Ok bytes)
data-at text bytes is time id = ap (λ (r : Result (List ℕ) FromHexError). data_reading time id r) is

pub data-long : (text : List ℕ) → length text % 2 ≡ 0 → list_all is_hex_digit text ≡ true → 16 < length text → (time id : ℕ) → data_reading time id (decode_of text) ≡ Err Length
data-long text even good long time id =
    let read = decode_of-digits text even (AllPass-from_list_all is_hex_digit text good) in
    let len = (decode_of-ok text read.0 read.1).2 in
    data-at text read.0 read.1 time id ∙ cond-true (ltb 8 (length read.0)) _ _ (lt-ltb 8 (length read.0) (omega arith))

pub data-short : (text bytes : List ℕ) → decode_of text ≡ Ok bytes → length bytes ≤ 8 → (time id : ℕ) → data_reading time id (decode_of text) ≡ Ok (FrameAt time (record { id = id; bytes = record { items = bytes } }))
data-short text bytes is short time id =
    data-at text bytes is time id ∙ cond-false (ltb 8 (length bytes)) _ _ (le-ltb 8 (length bytes) short)

-- ---- one byte in two hex digits

ok_from_some : (r : Result (List ℕ) FromHexError) (bytes : List ℕ) → result_ok r ≡ Some bytes → r ≡ Ok bytes
ok_from_some (Ok other) bytes e = cc e
ok_from_some (Err x) bytes e = cc e

one_byte : (bytes : List ℕ) → length bytes ≡ 1 → bytes ≡ get_or bytes 0 0 ∷ []
one_byte [] e = absurd (omega arith)
one_byte (b ∷ []) e = refl
one_byte (b ∷ x ∷ bytes) e = absurd (omega arith)

pub byte-read : (text bytes : List ℕ) → result_ok (decode_sized text 1) ≡ Some bytes → decode_of text ≡ Ok (get_or bytes 0 0 ∷ [])
byte-read text bytes e =
    let is = ok_from_some (decode_sized text 1) bytes e in
    let len = decode_sized-ok text 1 bytes is in
    let read = sym (decode_sized-twice text 1 len) ∙ is in
    let ok = (decode_of-ok text bytes read).2 in
    read ∙ ap Ok (one_byte bytes (omega arith))
