-- The bytes of Picture objects, beside those that their pixels take (docs/PROFILE.md, "Image data", "Warnings").
use Rattle.std.specs.Prelude.{ℕ, ◌+◌, ◌*◌, ◌/◌, ◌%◌, ◌==◌, if◌then◌else◌, List, [], ◌∷◌, length, Option, Some, None}
use Rattle.std.specs.Int.{div_ceil}
use Rattle.vt_kinds.specs.declared.object.Object.TheVariants as object
use Rattle.vt_kinds.specs.declared.pictures.Picture.{Picture}
use Rattle.vt_kinds.specs.Records.{Seen}
use Rattle.check_values.specs.declared.warning.ValueWarning.{ValueWarning}
use Rattle.check_values.specs.declared.warning.ValueWarning.TheVariants as warnings

-- the pixels in a byte, by the number of the format; None for a format without pixels
abbrev pub pixels_in_byte : ℕ → Option ℕ
pixels_in_byte format = if format == 0 then Some 8 else if format == 1 then Some 2 else if format == 2 then Some 1 else None

-- the bytes that the pixels of a picture take: each row begins with a new byte
abbrev pub bytes_of_pixels : Picture (List ℕ) → ℕ → ℕ
bytes_of_pixels p pixels = div_ceil p.actual_width pixels * p.actual_height

-- the bytes that pairs of a count and a byte stand for
abbrev pub unpacked : List ℕ → ℕ
unpacked [] = 0
unpacked (count ∷ []) = 0
unpacked (count ∷ byte ∷ pairs) = count + unpacked pairs

abbrev pub unless_equal : ℕ → ℕ → ℕ → List ValueWarning
unless_equal id bytes expected = if bytes == expected then [] else warnings.PictureBytes id bytes expected ∷ []

-- pairs have an even number of bytes
abbrev pub pairs_in : ℕ → List ℕ → ℕ → List ValueWarning
pairs_in id bytes expected =
    if length bytes % 2 == 1 then warnings.HalfPair id (length bytes) ∷ [] else unless_equal id (unpacked bytes) expected

-- Bit 2 of the options says that the bytes are pairs.
abbrev pub bytes_in : ℕ → Picture (List ℕ) → ℕ → List ValueWarning
bytes_in id p pixels =
    if p.options / 4 % 2 == 0 then unless_equal id (length p.bytes) (bytes_of_pixels p pixels)
    else pairs_in id p.bytes (bytes_of_pixels p pixels)

-- a picture of no known format has no pixels
abbrev pub bytes_if_known : ℕ → Picture (List ℕ) → Option ℕ → List ValueWarning
bytes_if_known id p None = []
bytes_if_known id p (Some pixels) = bytes_in id p pixels

-- a Picture whose bytes are not those of its pixels
abbrev pub picture_bytes : ℕ → Seen → List ValueWarning
picture_bytes id (object.Picture p) = bytes_if_known id p (pixels_in_byte p.format)
picture_bytes id o = []
