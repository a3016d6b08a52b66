-- Fields with texts (docs/PROFILE.md, "Fields"). Lengths are in pixels.
use Rattle.std.specs.Prelude.{ℕ, zero, suc, ◌+◌, ◌-◌, ◌*◌, ◌/◌, ◌%◌, max, ◌==◌, if◌then◌else◌, List, [], ◌∷◌, length, take, drop, Option, Some, None, slice_get}
use Rattle.std.specs.Option.{option_map}
use Rattle.vt_kinds.specs.declared.object.Object.TheVariants as objects
use Rattle.vt_kinds.specs.Records.{Seen}
use Rattle.check_needs.specs.Fonts.{cells}
use Rattle.draw_svg.specs.declared.attribute.Attribute.{Attribute}
use Rattle.draw_svg.specs.declared.attribute.Attribute.TheVariants as attributes
use Rattle.draw_svg.specs.declared.attribute.Flag.TheVariants as flags
use Rattle.draw_svg.specs.declared.attribute.Paint.{Paint}
use Rattle.draw_svg.specs.declared.attribute.Paint.TheVariants as paints
use Rattle.draw_svg.specs.declared.attribute.Style.{Style}
use Rattle.draw_svg.specs.declared.element.Element.TheVariants as elements
use Rattle.draw_svg.specs.Elements.{Nodes, Around, Empty, Characters}
use Rattle.draw_svg.specs.Elements as nodes
use Rattle.draw_shapes.specs.declared.shapes.fields.Field.{Field}
use Rattle.draw_shapes.specs.declared.shapes.fields.Look.{Look}
use Rattle.draw_shapes.specs.Bits.{has_bit}

-- the characters of a font; None for other objects and for a size that is not in the table
abbrev pub look_of : Option Seen → Option Look
look_of (Some (objects.Font o)) = option_map (λ cell. record { cell = cell; colour = o.colour; style = o.style }) (slice_get cells o.size)
look_of _ = None

-- bit 0 of a style is bold, bit 1 crossed out, bit 2 underlined and bit 3 italic
abbrev pub style_of : ℕ → Style
style_of style = record { bold = has_bit style 0; italic = has_bit style 3; underlined = has_bit style 2; crossed_out = has_bit style 1 }

-- ---- the rows of a text

-- the characters of a row that fit, at least one
abbrev pub columns : Look → Field → ℕ
columns look field = max 1 (field.area.width / max 1 look.cell.width)

-- the rows of which a pixel may be in the field
abbrev pub most_rows : Look → Field → ℕ
most_rows look field = field.area.height / max 1 look.cell.height + 1

-- a text cut after each n characters, at most so often
unfoldable pub pieces : ℕ → ℕ → List ℕ → List (List ℕ)
pieces zero n text = []
pieces (suc rows) n [] = []
pieces (suc rows) n (c ∷ text) = take n (c ∷ text) ∷ pieces rows n (drop n (c ∷ text))

-- a character in front of a text without spaces at its end
abbrev pub in_front_of : ℕ → List ℕ → List ℕ
in_front_of c [] = if c == 0x20 then [] else c ∷ []
in_front_of c (d ∷ text) = c ∷ d ∷ text

unfoldable pub trimmed : List ℕ → List ℕ
trimmed [] = []
trimmed (c ∷ text) = in_front_of c (trimmed text)

-- ---- the drawn rows

-- the distance of a row from the left: at the left, in the middle or at the right
abbrev pub indent : ℕ → ℕ → ℕ → ℕ
indent justification width row =
    if justification % 4 == 1 then (width - row) / 2 else if justification % 4 == 2 then width - row else 0

-- the colour of characters: inverted by bit 4 of the style
abbrev pub ink : Look → Field → ℕ
ink look field = if has_bit look.style 4 then field.colour else look.colour

abbrev pub row_attributes : Look → Field → ℕ → List ℕ → List Attribute
row_attributes look field i row =
    attributes.Left (indent field.justification field.area.width (look.cell.width * length row))
    ∷ attributes.Top (look.cell.height * i + look.cell.height * 19 / 24)
    ∷ attributes.FontSize ((5 * look.cell.height + 3) / 6) ∷ attributes.TextLength (look.cell.width * length row) ∷ attributes.Flag flags.StretchedCharacters
    ∷ attributes.Fill (paints.Colour (ink look field)) ∷ attributes.Style (style_of look.style) ∷ attributes.Flag flags.Spaces ∷ []

abbrev pub row_node : Look → Field → ℕ → List ℕ → Nodes → Nodes
row_node look field i row later = Around elements.Text (row_attributes look field i row) (Characters row nodes.None) later

abbrev pub alone : Look → Field → ℕ → List ℕ → Nodes
alone look field i row = row_node look field i row nodes.None

abbrev pub row_nodes : Look → Field → ℕ → List (List ℕ) → Nodes
row_nodes look field i [] = nodes.None
row_nodes look field i (row ∷ rows) = row_node look field i (trimmed row) (row_nodes look field (suc i) rows)

-- the only row of a text, cut after the character of which a pixel may be in the field
abbrev pub only_row : Look → Field → List ℕ → Nodes
only_row look field [] = nodes.None
only_row look field (c ∷ text) = alone look field 0 (take (columns look field + 1) (c ∷ text))

-- the rows of a text: as many as there are if it wraps, and else one
abbrev pub rows_of : Look → Field → List ℕ → Nodes
rows_of look field text =
    if field.wraps then row_nodes look field 0 (pieces (most_rows look field) (columns look field) text) else only_row look field (trimmed text)

abbrev pub texts : Option Look → Field → Option (List ℕ) → Nodes
texts None field text = nodes.None
texts (Some look) field None = nodes.None
texts (Some look) field (Some text) = rows_of look field text

-- the inside of a field: its own colour, that of the characters where they are inverted, or nothing
abbrev pub background : Option Look → Field → Paint
background None field = if field.is_transparent then paints.None else paints.Colour field.colour
background (Some look) field =
    if has_bit look.style 4 then paints.Colour look.colour else if field.is_transparent then paints.None else paints.Colour field.colour

abbrev pub area_attributes : Option Look → Field → List Attribute
area_attributes look field =
    attributes.Width field.area.width ∷ attributes.Height field.area.height ∷ attributes.Fill (background look field) ∷ attributes.Stroke field.border
    ∷ attributes.StrokeWidth 2 ∷ []

-- a field: its area and its border, and the rows of its text
abbrev pub field_shapes : Option Look → Field → Option (List ℕ) → Nodes
field_shapes look field text = Empty elements.Rect (area_attributes look field) (texts look field text)
