-- What is expected of a printed text, byte by byte.
use Rattle.std.specs.Prelude.{◌≡◌, ◌≢◌, ℕ, Bool, true, false, not, ◌==◌, ◌&&◌, if◌then◌else◌, List, [], ◌∷◌, ◌++◌, map}
use Rattle.std.specs.List.{AllZip}

-- what is expected of a byte: to be this one, or any but a newline
pub data BytePattern : Type 0 where
  Only : (byte : ℕ) → BytePattern
  Any : BytePattern

-- ---- what fits

abbrev pub byte_fits : BytePattern → ℕ → Bool
byte_fits (Only expected) byte = expected == byte
byte_fits Any byte = not (byte == 10)

-- whether a text fits what is expected: it is as long, and each byte fits
abbrev pub fits : List BytePattern → List ℕ → Bool
fits [] [] = true
fits [] (byte ∷ printed) = false
fits (expected ∷ more) [] = false
fits (expected ∷ more) (byte ∷ printed) = byte_fits expected byte && fits more printed

-- A byte fits what is expected of it.
abbrev pub FitsByte : BytePattern → ℕ → Type 0
FitsByte (Only expected) byte = byte ≡ expected
FitsByte Any byte = byte ≢ 10

-- A text fits what is expected: it is as long, and each byte fits.
abbrev pub Fits : List BytePattern → List ℕ → Type 0
Fits = AllZip FitsByte

-- ---- patterns of texts

-- any byte for `?`, and each other byte for itself
abbrev pub wildcard_or_byte : ℕ → BytePattern
wildcard_or_byte byte = if byte == 63 then Any else Only byte

-- the pattern of a text, in which `?` is a wildcard or not
abbrev pub pattern_of : (has_wildcards : Bool) → List ℕ → List BytePattern
pattern_of true text = map wildcard_or_byte text
pattern_of false text = map Only text

-- a byte of a pattern as people see it
abbrev pub shown_byte : BytePattern → ℕ
shown_byte (Only byte) = byte
shown_byte Any = 63

-- ---- texts of several lines

-- A text begins with what fits, and this rest is behind it, whatever else is expected there.
abbrev pub LeavesRest : (expected : List BytePattern) → (printed rest : List ℕ) → Type 0
LeavesRest expected printed rest = (more : List BytePattern) → fits (expected ++ more) printed ≡ fits more rest

-- A text does not begin with what fits.
abbrev pub FitsNever : (expected : List BytePattern) → (printed : List ℕ) → Type 0
FitsNever expected printed = (more : List BytePattern) → fits (expected ++ more) printed ≡ false
