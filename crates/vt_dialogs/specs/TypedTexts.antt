-- A number as the operator types it (docs/PROFILE.md, "Dialogs").
use Rattle.std.specs.Char.{is_ascii_digit}
use Rattle.std.specs.List.{list_all}
use Rattle.std.specs.Prelude.{ℕ, ◌+◌, ◌*◌, ◌^◌, ◌==◌, ◌&&◌, Bool, true, false, nat_le, if◌then◌else◌, List, [], ◌∷◌, length, Option, Some, None}
use Rattle.std.specs.Str.Parse.{digits_value}
use Rattle.vt_dialogs.specs.declared.typed.Typed.{Typed}

-- what is before the first point
abbrev pub whole_of : List ℕ → List ℕ
whole_of [] = []
whole_of (byte ∷ bytes) = if byte == 46 then [] else byte ∷ whole_of bytes

-- what is behind the first point, if there is one
abbrev pub fraction_of : List ℕ → Option (List ℕ)
fraction_of [] = None
fraction_of (byte ∷ bytes) = if byte == 46 then Some bytes else fraction_of bytes

-- the number of 1 to 15 digits
abbrev pub digits_in : List ℕ → Option ℕ
digits_in text =
    if nat_le 1 (length text) && nat_le (length text) 15 && list_all is_ascii_digit text then Some (digits_value 10 text) else None

abbrev pub typed_parts : Bool → List ℕ → Option ℕ → List ℕ → Option ℕ → Option Typed
typed_parts negative whole (Some a) fraction (Some b) =
    if nat_le (length whole + length fraction) 15
    then Some (record { is_negative = negative; digits = a * 10 ^ length fraction + b; decimals = length fraction })
    else None
typed_parts negative whole _ fraction _ = None

abbrev pub typed_whole : Bool → Option ℕ → Option Typed
typed_whole negative None = None
typed_whole negative (Some a) = Some (record { is_negative = negative; digits = a; decimals = 0 })

abbrev pub typed_by : Bool → List ℕ → Option (List ℕ) → Option Typed
typed_by negative whole None = typed_whole negative (digits_in whole)
typed_by negative whole (Some fraction) = typed_parts negative whole (digits_in whole) fraction (digits_in fraction)

-- a number without its sign: digits, and perhaps a point and more digits, at most 15 in all
abbrev pub typed_from : Bool → List ℕ → Option Typed
typed_from negative text = typed_by negative (whole_of text) (fraction_of text)

-- a number that is negative behind a minus
abbrev pub typed_of : List ℕ → Option Typed
typed_of [] = None
typed_of (byte ∷ bytes) = if byte == 45 then typed_from true bytes else typed_from false (byte ∷ bytes)
