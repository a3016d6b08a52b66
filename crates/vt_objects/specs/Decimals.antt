-- The shown number of an input or output number (docs/PROFILE.md, "Shown numbers").
use Rattle.std.specs.Prelude.{◌≡◌, ◌≤◌, ℕ, ℤ, pos, ◌-◌, ◌+◌, ◌*◌, ◌/◌, ◌%◌, ◌^◌, ◌-ℤ◌, ◌*ℤ◌, nat_abs, nat_lt, int_lt, ◌&&◌, List, [], ◌++◌, length, replicate, codes, ◌==◌, if◌then◌else◌}
use Rattle.std.specs.Fmt.{decimal}

-- r is n * 10 ^ decimals / 10 ^ places, rounded: it differs by at most one half, and of two such numbers it is the
-- one farther from zero.
pub record IsRounded (n : ℤ) (places decimals : ℕ) (r : ℤ) : Type 0 where
  pub near : 2 * nat_abs (r *ℤ pos (10 ^ places) -ℤ n *ℤ pos (10 ^ decimals)) ≤ 10 ^ places
  pub away : 2 * nat_abs (r *ℤ pos (10 ^ places) -ℤ n *ℤ pos (10 ^ decimals)) ≡ 10 ^ places
      → nat_abs (n *ℤ pos (10 ^ decimals)) ≤ nat_abs (r *ℤ pos (10 ^ places))

-- a number in decimal, padded with zeros to a number of digits
abbrev pub zero_padded : ℕ → ℕ → List ℕ
zero_padded digits n = replicate (digits - length (decimal n)) 48 ++ decimal n

-- the decimal point and the digits after it; empty for no decimals
abbrev pub fraction_text : ℕ → ℕ → List ℕ
fraction_text decimals n = if decimals == 0 then [] else codes "." ++ zero_padded decimals (n % 10 ^ decimals)

-- a whole number of units, in decimal with this many decimals
abbrev pub decimal_text : ℕ → ℤ → List ℕ
decimal_text decimals r =
    (if int_lt r (pos 0) then codes "-" else []) ++ decimal (nat_abs r / 10 ^ decimals) ++ fraction_text decimals (nat_abs r)

-- the shown text of value plus offset
pub record IsShownText (n : ℤ) (places decimals : ℕ) (text : List ℕ) : Type 0 where
  pub rounded : ℤ
  pub is : IsRounded n places decimals rounded
  pub digits : text ≡ decimal_text decimals rounded

-- The shown text is unique.
abbrev pub ShownIsOne : Type 0
ShownIsOne = (n : ℤ) (places decimals : ℕ) (a b : List ℕ) → IsShownText n places decimals a → IsShownText n places decimals b → a ≡ b

-- ---- the shown text, computed

-- The absolute value of n * 10 ^ decimals / 10 ^ places, rounded half up.
abbrev pub magnitude : ℤ → ℕ → ℕ → ℕ
magnitude n places decimals = (2 * (nat_abs n * 10 ^ decimals) + 10 ^ places) / (2 * 10 ^ places)

-- a magnitude with this many decimals, with "-" for a negative number unless it rounds to 0
abbrev pub signed_text : ℤ → ℕ → ℕ → List ℕ
signed_text n decimals q =
    (if int_lt n (pos 0) && nat_lt 0 q then codes "-" else []) ++ decimal (q / 10 ^ decimals) ++ fraction_text decimals q

unfoldable pub shown_text : ℤ → ℕ → ℕ → List ℕ
shown_text n places decimals = signed_text n decimals (magnitude n places decimals)
