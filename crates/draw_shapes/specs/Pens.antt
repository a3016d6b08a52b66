-- The lines and the insides of shapes (docs/PROFILE.md, "Lines and fillings").
use Rattle.std.specs.Prelude.{ℕ, ◌-◌, ◌*◌, ◌==◌, if◌then◌else◌, max, List, [], ◌∷◌, Option, Some, None}
use Rattle.std.specs.FinMap as finite
use Rattle.vt_kinds.specs.declared.attribute_objects.FillAttributes.{FillAttributes}
use Rattle.vt_kinds.specs.declared.attribute_objects.LineAttributes.{LineAttributes}
use Rattle.vt_kinds.specs.declared.object.Object.TheVariants as objects
use Rattle.vt_kinds.specs.Records.{Seen}
use Rattle.vt_stores.specs.Stores.{ObjectMap}
use Rattle.draw_svg.specs.declared.attribute.Attribute.{Attribute}
use Rattle.draw_svg.specs.declared.attribute.Attribute.TheVariants as attributes
use Rattle.draw_svg.specs.declared.attribute.Paint.{Paint}
use Rattle.draw_svg.specs.declared.attribute.Paint.TheVariants as paints
use Rattle.draw_shapes.specs.declared.pen.Pen.{Pen}

abbrev pub no_pen : Pen
no_pen = record { paint = paints.None; width = 0; art = 0xFFFF }

abbrev pub line_attributes_in : Option Seen → Option LineAttributes
line_attributes_in (Some (objects.LineAttributes o)) = Some o
line_attributes_in _ = None

-- the pen of line attributes; it draws nothing without them
abbrev pub pen_from : Option LineAttributes → Pen
pen_from None = no_pen
pen_from (Some o) = record { paint = paints.Colour o.colour; width = o.width; art = o.line_art }

abbrev pub pen_of : Option Seen → Pen
pen_of object = pen_from (line_attributes_in object)

-- a Picture as a pattern; nothing for another object
abbrev pub pattern_of : ℕ → Option Seen → Paint
pattern_of id (Some (objects.Picture o)) = paints.Pattern id
pattern_of id _ = paints.None

-- nothing, the colour of the lines, a pattern, or a colour of its own
abbrev pub filling : ObjectMap → FillAttributes → Pen → Paint
filling store o pen =
    if o.fill_type == 0 then paints.None
    else if o.fill_type == 1 then pen.paint
    else if o.fill_type == 3 then pattern_of o.pattern (finite.get store o.pattern)
    else paints.Colour o.colour

abbrev pub fill_attributes_in : Option Seen → Option FillAttributes
fill_attributes_in (Some (objects.FillAttributes o)) = Some o
fill_attributes_in _ = None

-- the inside of a shape with some fill attributes; empty without them
abbrev pub fill_from : ObjectMap → Option FillAttributes → Pen → Paint
fill_from store None pen = paints.None
fill_from store (Some o) pen = filling store o pen

abbrev pub fill_of : ObjectMap → Option Seen → Pen → Paint
fill_of store object pen = fill_from store (fill_attributes_in object) pen

-- a shape with its inside and its lines, whose widths are in tenths of a pixel
abbrev pub drawn_with : Paint → Pen → List Attribute
drawn_with paint pen =
    attributes.Fill paint ∷ attributes.Stroke pen.paint ∷ attributes.StrokeWidth (10 * pen.width) ∷ attributes.LineArt pen.art (10 * pen.width) ∷ []

-- half the width of a line
abbrev pub half : Pen → ℕ
half pen = 5 * pen.width

-- the far end of a line in an area: half its width before the edge, but never before its near end
abbrev pub far : Pen → ℕ → ℕ
far pen length = max (half pen) (10 * length - half pen)
