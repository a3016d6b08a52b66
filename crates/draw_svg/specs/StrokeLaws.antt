-- The pixels of strokes.
use Rattle.std.specs.Prelude.{◌≡◌, ◌<◌, ◌-◌, ◌/◌, ◌%◌, ◌^◌, ℕ, ◌==◌, if◌then◌else◌, length, filter}
use Rattle.std.specs.List.{AllByRecursion}
use Rattle.draw_svg.specs.declared.format.PixelFormat.{PixelFormat}
use Rattle.draw_svg.specs.Formats.{pixels_in_byte, pixel}
use Rattle.draw_svg.specs.declared.strokes.Stroke.{Stroke}
use Rattle.draw_svg.specs.Strokes.{strokes_of}

-- the colour number in a column of a byte that repeats
abbrev pub pixel_at : PixelFormat → ℕ → ℕ → ℕ
pixel_at format byte column = pixel format byte (column % pixels_in_byte format)

-- A stroke has a pixel in a column exactly if its colour is there.
abbrev pub HasItsPixel : PixelFormat → ℕ → ℕ → Stroke → Type 0
HasItsPixel format byte column s = s.art / 2 ^ (15 - column) % 2 ≡ (if s.colour == pixel_at format byte column then 1 else 0)

-- In each column, the strokes have the pixels of their colours, and one of them has the colour that is there.
pub record StrokesAreThePixels : Type 0 where
  pub own : (format : PixelFormat) (byte column : ℕ) → byte < 256 → column < 16 → AllByRecursion (HasItsPixel format byte column) (strokes_of format byte)
  pub one : (format : PixelFormat) (byte column : ℕ) → byte < 256 → column < 16
      → length (filter (λ s. s.colour == pixel_at format byte column) (strokes_of format byte)) ≡ 1
