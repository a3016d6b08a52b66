-- The scales of shown numbers (docs/PROFILE.md, "Scales and decimals").
use Rattle.std.specs.Prelude.{◌≡◌, ℕ, List, [], ◌∷◌, ◌==◌, if◌then◌else◌, Option, Some, None}
use Rattle.byteorder.specs.Endian.{little_number}
use Rattle.vt_kinds.specs.declared.scale.Scale.{Scale}
use Rattle.vt_kinds.specs.declared.scale.Scale.TheVariants.{One, Tenth, Hundredth, Thousandth}

-- the four bytes of a scale in a record
abbrev pub scale_bytes : Scale → List ℕ
scale_bytes One = 0x00 ∷ 0x00 ∷ 0x80 ∷ 0x3F ∷ []
scale_bytes Tenth = 0xCD ∷ 0xCC ∷ 0xCC ∷ 0x3D ∷ []
scale_bytes Hundredth = 0x0A ∷ 0xD7 ∷ 0x23 ∷ 0x3C ∷ []
scale_bytes Thousandth = 0x6F ∷ 0x12 ∷ 0x83 ∷ 0x3A ∷ []

-- the decimal places of a scale
abbrev pub scale_places : Scale → ℕ
scale_places One = 0
scale_places Tenth = 1
scale_places Hundredth = 2
scale_places Thousandth = 3

-- a scale's four bytes as a number
abbrev pub scale_number : Scale → ℕ
scale_number s = little_number 4 (scale_bytes s)

abbrev pub scales : List Scale
scales = One ∷ Tenth ∷ Hundredth ∷ Thousandth ∷ []

abbrev pub scale_among : List Scale → ℕ → Option Scale
scale_among [] n = None
scale_among (s ∷ ss) n = if n == scale_number s then Some s else scale_among ss n

-- the scale with this number, if there is one
abbrev pub scale_at : ℕ → Option Scale
scale_at n = scale_among scales n

-- some scale has this number
abbrev pub IsScale : ℕ → Type 0
IsScale n = (s : Scale) × (n ≡ scale_number s)
