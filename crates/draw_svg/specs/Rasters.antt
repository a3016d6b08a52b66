-- The rows of a picture as runs (docs/PROFILE.md, "Image data").
use Rattle.std.specs.Prelude.{◌≡◌, ℕ, ◌+◌, ◌*◌, ◌/◌, ◌%◌, ◌≤◌, ◌<◌, Bool, ◌==◌, if◌then◌else◌, List, [], ◌∷◌, ◌++◌, length, take, replicate, Option, Some, None}
use Rattle.vt_kinds.specs.declared.pictures.Picture.{Picture}
use Rattle.draw_svg.specs.declared.format.PixelFormat.{PixelFormat}
use Rattle.draw_svg.specs.declared.run.Run.{Run}
use Rattle.draw_svg.specs.Formats.{format_of, bytes_in_row}

-- ---- image data

-- bit 2 of the options
abbrev pub is_packed : ℕ → Bool
is_packed options = options / 4 % 2 == 1

-- pairs of a count and a byte, written out; a count alone, at the end, is nothing
abbrev pub unpacked : List ℕ → List ℕ
unpacked [] = []
unpacked (count ∷ []) = []
unpacked (count ∷ byte ∷ pairs) = replicate count byte ++ unpacked pairs

-- the bytes of all rows, one row after another
abbrev pub image_data : Picture (List ℕ) → List ℕ
image_data p = if is_packed p.options then unpacked p.bytes else p.bytes

-- ---- runs

-- Runs side by side stand for these bytes, of which the first has the index `at` in all rows joined. Each run is within a
-- row.
abbrev pub AreRuns : ℕ → ℕ → List Run → List ℕ → Type 0
AreRuns size at [] bytes = bytes ≡ []
AreRuns size at (r ∷ runs) bytes =
    (r.row * size + r.start ≡ at) × (0 < r.count) × (r.start + r.count ≤ size)
    × ((rest : List ℕ) × (bytes ≡ replicate r.count r.byte ++ rest) × AreRuns size (at + r.count) runs rest)

-- the runs of as much of the image data as the rows have room for; none without a format
abbrev pub AreRunsIn : Picture (List ℕ) → List Run → Option PixelFormat → Type 0
AreRunsIn p runs None = runs ≡ []
AreRunsIn p runs (Some format) =
    AreRuns (bytes_in_row format p.actual_width) 0 runs (take (p.actual_height * bytes_in_row format p.actual_width) (image_data p))

abbrev pub IsRaster : Picture (List ℕ) → List Run → Type 0
IsRaster p runs = AreRunsIn p runs (format_of p.format)

-- ---- the number of runs

-- the bytes of a row; none without a format
abbrev pub row_size : Option PixelFormat → ℕ → ℕ
row_size None width = 0
row_size (Some format) width = bytes_in_row format width

-- At most one run for each byte, and one for each row that the image data fills.
pub record AreFewRuns (p : Picture (List ℕ)) (runs : List Run) : Type 0 where
  pub rows : ℕ
  pub most : length runs ≤ length p.bytes + rows
  pub within : rows ≤ p.actual_height
  pub filled : rows * row_size (format_of p.format) p.actual_width ≤ length (image_data p)
