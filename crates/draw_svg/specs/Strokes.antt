-- Runs of pixels as strokes (docs/PROFILE.md, "Picture objects"). A pixel is two units wide and high.
use Rattle.std.specs.Prelude.{ℕ, ◌+◌, ◌-◌, ◌*◌, ◌/◌, ◌%◌, Bool, nat_lt, ◌==◌, ◌&&◌, ◌||◌, if◌then◌else◌, List, [], ◌∷◌, ◌++◌, length, Option, Some, None}
use Rattle.std.specs.List.{flat_map}
use Rattle.vt_kinds.specs.declared.pictures.Picture.{Picture}
use Rattle.draw_svg.specs.declared.format.PixelFormat.{PixelFormat}
use Rattle.draw_svg.specs.declared.format.PixelFormat.TheVariants.{OneBit, FourBits, EightBits}
use Rattle.draw_svg.specs.declared.run.Run.{Run}
use Rattle.draw_svg.specs.Formats.{pixels_in_byte}
use Rattle.draw_svg.specs.declared.attribute.Attribute.TheVariants as attributes
use Rattle.draw_svg.specs.declared.attribute.Paint.TheVariants.{Colour}
use Rattle.draw_svg.specs.declared.element.Element.TheVariants.{Polyline}
use Rattle.draw_svg.specs.declared.points.SvgPoint.{SvgPoint}
use Rattle.draw_svg.specs.Elements.{led_along}
use Rattle.draw_svg.specs.declared.strokes.Stroke.{Stroke}

abbrev pub stroke : ℕ → ℕ → Stroke
stroke colour art = record { colour = colour; art = art }

-- The strokes of a byte that repeats: colours with line art of 16 pixels, the leftmost in the highest bit.
abbrev pub strokes_of : PixelFormat → ℕ → List Stroke
strokes_of OneBit byte = stroke 0 (0xFFFF - 257 * byte) ∷ stroke 1 (257 * byte) ∷ []
strokes_of FourBits byte =
    if byte / 16 == byte % 16 then stroke (byte % 16) 0xFFFF ∷ [] else stroke (byte / 16) 0xAAAA ∷ stroke (byte % 16) 0x5555 ∷ []
strokes_of EightBits byte = stroke byte 0xFFFF ∷ []

-- ---- as text

-- bit 0 of the options
abbrev pub is_transparent : Picture (List ℕ) → ℕ → Bool
is_transparent p colour = p.options % 2 == 1 && p.transparency == colour

-- the middle of the left edge of a pixel
abbrev pub place : ℕ → ℕ → SvgPoint
place column row = record { x = 2 * column; y = 2 * row + 1 }

-- from the first column of a run to the one after its last
abbrev pub line_of : PixelFormat → Run → List SvgPoint
line_of format r = place (pixels_in_byte format * r.start) r.row ∷ place (pixels_in_byte format * (r.start + r.count)) r.row ∷ []

abbrev pub drawn_stroke : List SvgPoint → Stroke → List ℕ
drawn_stroke line s = led_along Polyline (attributes.Stroke (Colour s.colour) ∷ attributes.LineArt s.art 2 ∷ []) line

-- nothing for a stroke without a pixel, and for the transparency colour
abbrev pub stroke_text : Picture (List ℕ) → List SvgPoint → Stroke → List ℕ
stroke_text p line s = if s.art == 0 || is_transparent p s.colour then [] else drawn_stroke line s

abbrev pub run_text : Picture (List ℕ) → PixelFormat → Run → List ℕ
run_text p format r = flat_map (stroke_text p (line_of format r)) (strokes_of format r.byte)

-- the most bytes of a text after which the pixels of another run are appended
abbrev pub most_bytes : ℕ
most_bytes = 12000000

abbrev pub with_run : Picture (List ℕ) → PixelFormat → List ℕ → Run → List ℕ
with_run p format text r = if nat_lt most_bytes (length text) then text else text ++ run_text p format r

-- a text with runs after it, one after another
abbrev pub with_runs : Picture (List ℕ) → PixelFormat → List ℕ → List Run → List ℕ
with_runs p format text [] = text
with_runs p format text (r ∷ runs) = with_runs p format (with_run p format text r) runs

-- a text with the runs of a picture after it; none without a format
abbrev pub with_pixels : Picture (List ℕ) → Option PixelFormat → List ℕ → List Run → List ℕ
with_pixels p None text runs = text
with_pixels p (Some format) text runs = with_runs p format text runs
