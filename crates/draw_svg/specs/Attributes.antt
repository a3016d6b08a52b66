-- Attributes as text.
use Rattle.std.specs.Prelude.{ℕ, zero, suc, ℤ, ◌/◌, ◌%◌, ◌^◌, Bool, true, false, ◌==◌, if◌then◌else◌, List, [], ◌∷◌, ◌++◌, codes}
use Rattle.std.specs.Fmt.{decimal, signed_decimal}
use Rattle.std.specs.List.{flat_map}
use Rattle.draw_svg.specs.declared.attribute.Attribute.{Attribute}
use Rattle.draw_svg.specs.declared.attribute.Attribute.TheVariants as attributes
use Rattle.draw_svg.specs.declared.attribute.Flag.{Flag}
use Rattle.draw_svg.specs.declared.attribute.Flag.TheVariants as flags
use Rattle.draw_svg.specs.declared.attribute.Style.{Style}
use Rattle.draw_svg.specs.declared.attribute.Paint.{Paint}
use Rattle.draw_svg.specs.declared.attribute.Paint.TheVariants as paints
use Rattle.draw_svg.specs.Palette.{colour_text}

-- a text, a number and a quote
abbrev pub quoted : List ℕ → ℤ → List ℕ
quoted before n = before ++ (signed_decimal n ++ codes "\"")

abbrev pub numbered : List ℕ → ℕ → List ℕ
numbered before n = before ++ (decimal n ++ codes "\"")

-- a text, two numbers with a space between them, and a quote
abbrev pub paired : List ℕ → ℕ → ℕ → List ℕ
paired before m n = before ++ (decimal m ++ (codes " " ++ (decimal n ++ codes "\"")))

abbrev pub paint_text : Paint → List ℕ
paint_text paints.None = codes "none"
paint_text (paints.Colour n) = colour_text n
paint_text (paints.Pattern id) = codes "url(#f" ++ (decimal id ++ codes ")")

-- a text, a paint and a quote
abbrev pub painted : List ℕ → Paint → List ℕ
painted before paint = before ++ (paint_text paint ++ codes "\"")

abbrev pub decoration : Bool → Bool → List ℕ
decoration false false = []
decoration true false = codes " text-decoration=\"underline\""
decoration false true = codes " text-decoration=\"line-through\""
decoration true true = codes " text-decoration=\"underline line-through\""

abbrev pub face : Bool → Bool → List ℕ
face false false = []
face true false = codes " font-weight=\"bold\""
face false true = codes " font-style=\"italic\""
face true true = codes " font-weight=\"bold\" font-style=\"italic\""

abbrev pub style_text : Style → List ℕ
style_text style = face style.bold style.italic ++ decoration style.underlined style.crossed_out

-- a bit of line art: a dash and no space, or no dash and a space
abbrev pub bit_text : Bool → ℕ → List ℕ
bit_text is_set width = if is_set then decimal width ++ codes " 0 " else codes "0 " ++ (decimal width ++ codes " ")

abbrev pub is_set : ℕ → ℕ → Bool
is_set art bit = art / 2 ^ bit % 2 == 1

-- the numbers below a number, from the highest down
unfoldable pub below : ℕ → List ℕ
below zero = []
below (suc n) = n ∷ below n

-- the bits of line art, from the highest down
abbrev pub line_art : ℕ → ℕ → List ℕ
line_art art width = flat_map (λ bit. bit_text (is_set art bit) width) (below 16)

-- a text, line art and a quote; nothing for a solid line
abbrev pub dashed : List ℕ → ℕ → ℕ → List ℕ
dashed before art width = if art == 0xFFFF then [] else before ++ (line_art art width ++ codes "\"")

-- square ends for a solid line, flat ones for the others
abbrev pub line_ends : ℕ → List ℕ
line_ends art = if art == 0xFFFF then codes " stroke-linecap=\"square\"" else []

abbrev pub flag_text : Flag → List ℕ
flag_text flags.StretchedCharacters = codes " lengthAdjust=\"spacingAndGlyphs\""
flag_text flags.PatternInPixels = codes " patternUnits=\"userSpaceOnUse\""
flag_text flags.StretchedPicture = codes " preserveAspectRatio=\"none\""
flag_text flags.Overflow = codes " overflow=\"visible\""
flag_text flags.Crisp = codes " shape-rendering=\"crispEdges\""
flag_text flags.Spaces = codes " xml:space=\"preserve\""
flag_text flags.Font = codes " font-family=\"DejaVu Sans Mono, monospace\""
flag_text flags.NameSpace = codes " xmlns=\"http://www.w3.org/2000/svg\""

abbrev pub attribute_text : Attribute → List ℕ
attribute_text (attributes.X n) = quoted (codes " x=\"") n
attribute_text (attributes.Y n) = quoted (codes " y=\"") n
attribute_text (attributes.Left n) = numbered (codes " x=\"") n
attribute_text (attributes.Top n) = numbered (codes " y=\"") n
attribute_text (attributes.Width n) = numbered (codes " width=\"") n
attribute_text (attributes.Height n) = numbered (codes " height=\"") n
attribute_text (attributes.CentreX n) = numbered (codes " cx=\"") n
attribute_text (attributes.CentreY n) = numbered (codes " cy=\"") n
attribute_text (attributes.RadiusX n) = numbered (codes " rx=\"") n
attribute_text (attributes.RadiusY n) = numbered (codes " ry=\"") n
attribute_text (attributes.Coordinates width height) = paired (codes " viewBox=\"0 0 ") width height
attribute_text (attributes.Fill paint) = painted (codes " fill=\"") paint
attribute_text (attributes.Stroke paint) = painted (codes " stroke=\"") paint
attribute_text (attributes.StrokeWidth n) = numbered (codes " stroke-width=\"") n
attribute_text (attributes.LineArt art width) = dashed (codes " stroke-dasharray=\"") art width
attribute_text (attributes.LineEnds art) = line_ends art
attribute_text (attributes.FontSize n) = numbered (codes " font-size=\"") n
attribute_text (attributes.TextLength n) = numbered (codes " textLength=\"") n
attribute_text (attributes.ObjectId id) = numbered (codes " data-id=\"") id
attribute_text (attributes.PictureId id) = numbered (codes " id=\"p") id
attribute_text (attributes.PictureShown id) = numbered (codes " href=\"#p") id
attribute_text (attributes.PatternId id) = numbered (codes " id=\"f") id
attribute_text (attributes.Style style) = style_text style
attribute_text (attributes.Flag flag) = flag_text flag
