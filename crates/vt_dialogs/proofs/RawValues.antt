-- A typed number has one raw value at most, and none where its digits do not fit the scale.
use Rattle.std.proofs.Common.{◌≡◌, ◌≢◌, ◌<◌, ℕ, zero, suc, ◌*◌, ◌/◌, ◌%◌, ◌^◌, ℤ, pos, ◌+ℤ◌, Option, Some, None, sym, ap, ◌∙◌, arith}
use Rattle.std.specs.Prelude.{MatchOption}
use Rattle.std.proofs.lemmas.Int.{ints}
use Rattle.std.proofs.Math.Nat.{div-add-mod, mul-div_cancel, mul-mod_left, pow-suc}
use Rattle.vt_kinds.specs.Scales.{scale_places}
use Rattle.vt_kinds.specs.declared.input_fields.InputNumber.{InputNumber}
use Rattle.vt_dialogs.specs.declared.typed.Typed.{Typed}
use Rattle.vt_dialogs.specs.TypedNumbers.{IsRaw, RawIsOne, with_sign}

pub some_power : (n : ℕ) → 0 < 10 ^ n
some_power zero = omega arith
some_power (suc n) = omega (arith, pow-suc 10 n, some_power n)

same_raw : (a b : ℕ) (o : ℤ) → pos a +ℤ o ≡ pos b +ℤ o → a ≡ b
same_raw a b o e = omega (arith, ints)

same_size : (m n u : ℕ) → 0 < u → m * u ≡ n * u → m ≡ n
same_size m n u some e = sym (mul-div_cancel m some) ∙ ap (λ (k : ℕ). k / u) e ∙ mul-div_cancel n some

pub one_raw : RawIsOne
one_raw input typed a b first second =
    let same = same_size first.size second.size (10 ^ typed.decimals) (some_power typed.decimals) (first.scaled ∙ sym second.scaled) in
    same_raw a b input.offset (first.sum ∙ ap (with_sign typed.is_negative) same ∙ sym second.sum)

-- what is no whole number of units is no number of units
pub no_size : (scaled unit size : ℕ) → scaled % unit ≢ 0 → size * unit ≢ scaled
no_size scaled unit size rest is = rest (ap (λ (n : ℕ). n % unit) (sym is) ∙ mul-mod_left size unit)

pub whole_size : (scaled unit : ℕ) → scaled % unit ≡ 0 → scaled / unit * unit ≡ scaled
whole_size scaled unit whole = grind (arith, div-add-mod scaled unit, whole)

-- The raw value of the size of a typed number is that of the number.
pub raw_of_size : (input : InputNumber) (typed : Typed) (size : ℕ) (raw : Option ℕ) → size * 10 ^ typed.decimals ≡ typed.digits * 10 ^ scale_places input.scale
    → MatchOption raw ((r : ℕ) → r < 2 ^ 32 → pos r +ℤ input.offset ≡ with_sign typed.is_negative size → ⊥)
    (λ r. pos r +ℤ input.offset ≡ with_sign typed.is_negative size)
    → MatchOption raw ((r : ℕ) → r < 2 ^ 32 → IsRaw input typed r → ⊥) (λ r. IsRaw input typed r)
raw_of_size input typed size None scaled none = λ r fits is.
    none r fits (is.sum ∙ ap (with_sign typed.is_negative) (same_size is.size size (10 ^ typed.decimals) (some_power typed.decimals) (is.scaled ∙ sym scaled)))
raw_of_size input typed size (Some r) scaled sum = record { size = size; sum = sum; scaled = scaled }
