-- The raw value of a number that the operator typed (docs/PROFILE.md, "Dialogs").
use Rattle.std.specs.Prelude.{◌≡◌, ℕ, ℤ, pos, neg_ℤ, ◌*◌, ◌^◌, ◌+ℤ◌, Bool, true, false}
use Rattle.vt_kinds.specs.Scales.{scale_places}
use Rattle.vt_kinds.specs.declared.input_fields.InputNumber.{InputNumber}
use Rattle.vt_dialogs.specs.declared.typed.Typed.{Typed}

abbrev pub with_sign : Bool → ℕ → ℤ
with_sign true n = neg_ℤ (pos n)
with_sign false n = pos n

-- The raw value plus the offset has the sign of the typed number, and scaled it is the typed number exactly:
-- size / 10 ^ places = digits / 10 ^ decimals.
pub record IsRaw (input : InputNumber) (typed : Typed) (raw : ℕ) : Type 0 where
  pub size : ℕ
  pub sum : pos raw +ℤ input.offset ≡ with_sign typed.is_negative size
  pub scaled : size * 10 ^ typed.decimals ≡ typed.digits * 10 ^ scale_places input.scale

-- A typed number has one raw value at most.
abbrev pub RawIsOne : Type 0
RawIsOne = (input : InputNumber) (typed : Typed) (a b : ℕ) → IsRaw input typed a → IsRaw input typed b → a ≡ b
