-- The places of runs (docs/PROFILE.md, "Image data").
use Rattle.std.specs.Prelude.{◌≡◌, ℕ, ◌+◌, ◌*◌, ◌/◌, ◌<◌, ◌==◌, List, [], take, drop, replicate, filter, Some, None}
use Rattle.std.specs.List.{flat_map, AllByRecursion}
use Rattle.vt_kinds.specs.declared.pictures.Picture.{Picture}
use Rattle.draw_svg.specs.declared.format.PixelFormat.{PixelFormat}
use Rattle.draw_svg.specs.declared.run.Run.{Run}
use Rattle.draw_svg.specs.Formats.{format_of, pixels_in_byte, bytes_in_row}
use Rattle.draw_svg.specs.Rasters.{image_data, IsRaster}

-- the bytes of a row
abbrev pub row_of : ℕ → ℕ → List ℕ → List ℕ
row_of size row bytes = take size (drop (row * size) bytes)

-- the bytes of a run, and of all runs in a row
abbrev pub run_bytes : Run → List ℕ
run_bytes r = replicate r.count r.byte

abbrev pub bytes_of_runs : ℕ → List Run → List ℕ
bytes_of_runs row runs = flat_map run_bytes (filter (λ r. r.row == row) runs)

-- the bytes of a run stand at its place in the image data
abbrev pub IsAtPlace : ℕ → List ℕ → Run → Type 0
IsAtPlace size bytes r = take r.count (drop (r.row * size + r.start) bytes) ≡ run_bytes r

-- The runs of a row are the whole row, each run is at its place, and none is past the last row. There are none without a
-- format.
pub record RunsAreTheImage : Type 0 where
  pub in_rows : (p : Picture (List ℕ)) (runs : List Run) (format : PixelFormat) (row : ℕ) → IsRaster p runs → format_of p.format ≡ Some format → row < p.actual_height
      → bytes_of_runs row runs ≡ row_of (bytes_in_row format p.actual_width) row (image_data p)
  pub places : (p : Picture (List ℕ)) (runs : List Run) (format : PixelFormat) → IsRaster p runs → format_of p.format ≡ Some format
      → AllByRecursion (IsAtPlace (bytes_in_row format p.actual_width) (image_data p)) runs
  pub past : (p : Picture (List ℕ)) (runs : List Run) → IsRaster p runs → AllByRecursion (λ r. r.row < p.actual_height) runs
  pub none : (p : Picture (List ℕ)) (runs : List Run) → IsRaster p runs → format_of p.format ≡ None → runs ≡ []

-- A row has a byte for each of its pixels, and no byte without a pixel.
pub record RowsHoldTheirPixels : Type 0 where
  pub each : (format : PixelFormat) (width column : ℕ) → column < width → column / pixels_in_byte format < bytes_in_row format width
  pub least : (format : PixelFormat) (width : ℕ) → bytes_in_row format width * pixels_in_byte format < width + pixels_in_byte format
