-- Meters and bars (docs/PROFILE.md, "Meters and bars"). Lengths are in tenths of a pixel.
use Rattle.std.specs.Prelude.{ℕ, zero, suc, ◌+◌, ◌-◌, ◌*◌, ◌/◌, ◌%◌, min, max, Bool, not, nat_le, if◌then◌else◌, List, [], ◌∷◌, ◌++◌, Option, Some, None}
use Rattle.vt_kinds.specs.declared.graphs.Meter.{Meter}
use Rattle.vt_kinds.specs.declared.graphs.LinearBar.{LinearBar}
use Rattle.vt_kinds.specs.declared.graphs.ArchedBar.{ArchedBar}
use Rattle.vt_stores.specs.Stores.{ObjectMap}
use Rattle.vt_shown.specs.ShownElements.{number_shown}
use Rattle.draw_svg.specs.declared.attribute.Attribute.{Attribute}
use Rattle.draw_svg.specs.declared.attribute.Attribute.TheVariants as attributes
use Rattle.draw_svg.specs.declared.attribute.Paint.TheVariants as paints
use Rattle.draw_svg.specs.declared.element.Element.TheVariants as elements
use Rattle.draw_svg.specs.declared.points.SvgPoint.{SvgPoint}
use Rattle.draw_svg.specs.Elements.{Nodes, Along, Empty, followed, when}
use Rattle.draw_svg.specs.Elements as nodes
use Rattle.draw_shapes.specs.declared.shapes.arcs.Oval.{Oval}
use Rattle.draw_shapes.specs.Arcs.{arc, arc_back, point_on, sweep}
use Rattle.draw_shapes.specs.Bits.{has_bit}
use Rattle.draw_shapes.specs.Lines.{point}

-- ---- values

-- the share of a span at which a value is in a range; 0 in an empty range
abbrev pub share : ℕ → ℕ → ℕ → ℕ → ℕ
share span lowest greatest value =
    if nat_le greatest lowest then 0 else span * (min (max value lowest) greatest - lowest) / (greatest - lowest)

abbrev pub or_zero : Option ℕ → ℕ
or_zero None = 0
or_zero (Some n) = n

-- the number that an object shows; 0 if its variable is missing
abbrev pub shown : ObjectMap → ℕ → ℕ → ℕ
shown store variable value = or_zero (number_shown store variable value)

-- a line of a colour and a width
abbrev pub plain_line : ℕ → ℕ → List Attribute
plain_line colour width = attributes.Fill paints.None ∷ attributes.Stroke (paints.Colour colour) ∷ attributes.StrokeWidth width ∷ []

abbrev pub line : List Attribute → SvgPoint → SvgPoint → Nodes
line attributes first last = Along elements.Polyline attributes (first ∷ last ∷ []) nodes.None

-- nodes for each number below a given one, from 0 up
abbrev pub each_below : (ℕ → Nodes) → ℕ → Nodes
each_below draws zero = nodes.None
each_below draws (suc n) = followed (each_below draws n) (draws n)

-- the place of a tick among others, the first at 0 and the last at the end of a span
abbrev pub tick_at : ℕ → ℕ → ℕ → ℕ
tick_at span ticks i = if nat_le ticks 1 then 0 else span * i / (ticks - 1)

-- the angle after some steps of a sweep: counterclockwise from its start, or clockwise from its end
abbrev pub turned : Bool → ℕ → ℕ → ℕ → ℕ
turned clockwise start steps n = (start % 180 + (if clockwise then steps - n else n)) % 180

-- ---- meters

-- a circle in a meter, by tenths of its radius
abbrev pub dial : Meter → ℕ → Oval
dial o part = record { x = 5 * o.width; y = 5 * o.width; radius_x = o.width * part / 2; radius_y = o.width * part / 2 }

abbrev pub steps_of : Meter → ℕ
steps_of o = sweep o.start o.end

abbrev pub meter_tick : Meter → ℕ → Nodes
meter_tick o i =
    let angle = turned (has_bit o.options 3) o.start (steps_of o) (tick_at (steps_of o) o.ticks i) in
    line (plain_line o.arc_colour 20) (point_on (dial o 8) angle) (point_on (dial o 9) angle)

abbrev pub needle : ObjectMap → Meter → Nodes
needle store o =
    line (plain_line o.needle_colour 30) (point (5 * o.width) (5 * o.width))
    (point_on (dial o 8) (turned (has_bit o.options 3) o.start (steps_of o) (share (steps_of o) o.min o.max (shown store o.variable o.value))))

abbrev pub meter_border : Meter → Nodes
meter_border o =
    Empty elements.Ellipse
    (attributes.CentreX (5 * o.width) ∷ attributes.CentreY (5 * o.width) ∷ attributes.RadiusX (5 * o.width) ∷ attributes.RadiusY (5 * o.width)
    ∷ plain_line o.border_colour 20) nodes.None

abbrev pub meter_arc : Meter → Nodes
meter_arc o = Along elements.Polyline (plain_line o.arc_colour 20) (arc (dial o 9) o.start (steps_of o)) nodes.None

-- the arc, the border, the ticks and the needle
abbrev pub meter_shapes : ObjectMap → Meter → Nodes
meter_shapes store o =
    followed (when (has_bit o.options 0) (meter_arc o))
    (followed (when (has_bit o.options 1) (meter_border o))
    (followed (when (has_bit o.options 2) (each_below (meter_tick o) o.ticks)) (needle store o)))

-- ---- linear bars

abbrev pub is_horizontal : LinearBar → Bool
is_horizontal o = has_bit o.options 4

-- the length of a bar along its axis
abbrev pub length_of : LinearBar → ℕ
length_of o = 10 * (if is_horizontal o then o.width else o.height)

-- whether a bar begins at the left or upper edge: it grows to the right, or downwards
abbrev pub begins_at_zero : LinearBar → Bool
begins_at_zero o = if is_horizontal o then has_bit o.options 5 else not (has_bit o.options 5)

-- the distance from the left or upper edge, of a length from the end at which the bar begins
abbrev pub along_axis : LinearBar → ℕ → ℕ
along_axis o n = if begins_at_zero o then n else length_of o - n

-- a line across a bar, from the left or upper edge, of at most some length
abbrev pub across : LinearBar → List Attribute → ℕ → ℕ → Nodes
across o attributes n most =
    if is_horizontal o
    then line attributes (point (along_axis o n) 0) (point (along_axis o n) (min most (10 * o.height)))
    else line attributes (point 0 (along_axis o n)) (point (min most (10 * o.width)) (along_axis o n))

-- a length that no bar has, in tenths of a pixel
abbrev pub all_across : ℕ
all_across = 1000000

-- the part of a bar between two lengths
abbrev pub part_between : LinearBar → ℕ → ℕ → List SvgPoint
part_between o m n =
    if is_horizontal o
    then point (along_axis o m) 0 ∷ point (along_axis o n) 0 ∷ point (along_axis o n) (10 * o.height) ∷ point (along_axis o m) (10 * o.height) ∷ []
    else point 0 (along_axis o m) ∷ point 0 (along_axis o n) ∷ point (10 * o.width) (along_axis o n) ∷ point (10 * o.width) (along_axis o m) ∷ []

abbrev pub value_length : ObjectMap → LinearBar → ℕ
value_length store o = share (length_of o) o.min o.max (shown store o.variable o.value)

-- the bar up to the value, or a line at the value
abbrev pub value_part : ObjectMap → LinearBar → Nodes
value_part store o =
    if has_bit o.options 3
    then across o (plain_line o.colour 20) (value_length store o) all_across
    else Along elements.Polygon (attributes.Fill (paints.Colour o.colour) ∷ []) (part_between o 0 (value_length store o)) nodes.None

abbrev pub bar_tick : LinearBar → ℕ → Nodes
bar_tick o i = across o (plain_line 0 10) (tick_at (length_of o) o.ticks i) 40

abbrev pub bar_target : ObjectMap → LinearBar → Nodes
bar_target store o = across o (plain_line o.target_colour 20) (share (length_of o) o.min o.max (shown store o.target_variable o.target)) all_across

abbrev pub bar_border : LinearBar → Nodes
bar_border o = Along elements.Polygon (plain_line o.colour 10) (part_between o 0 (length_of o)) nodes.None

-- the value, the border, the ticks and the target
abbrev pub bar_shapes : ObjectMap → LinearBar → Nodes
bar_shapes store o =
    followed (value_part store o)
    (followed (when (has_bit o.options 0) (bar_border o))
    (followed (when (has_bit o.options 2) (each_below (bar_tick o) o.ticks)) (when (has_bit o.options 1) (bar_target store o))))

-- ---- arched bars

-- an ellipse at a distance from the edge of an arched bar
abbrev pub ring : ArchedBar → ℕ → Oval
ring o inset = record { x = 5 * o.width; y = 5 * o.height; radius_x = 5 * o.width - inset; radius_y = 5 * o.height - inset }

abbrev pub arch_steps : ArchedBar → ℕ
arch_steps o = sweep o.start o.end

abbrev pub is_clockwise : ArchedBar → Bool
is_clockwise o = has_bit o.options 4

-- a line across the arch after some steps
abbrev pub across_arch : ArchedBar → ℕ → ℕ → Nodes
across_arch o colour n =
    let angle = turned (is_clockwise o) o.start (arch_steps o) n in
    line (plain_line colour 20) (point_on (ring o (10 * o.bar_width)) angle) (point_on (ring o 0) angle)

abbrev pub arch_value : ObjectMap → ArchedBar → ℕ
arch_value store o = share (arch_steps o) o.min o.max (shown store o.variable o.value)

-- the angle at which the drawn part of an arch begins, counterclockwise
abbrev pub first_angle : ArchedBar → ℕ → ℕ
first_angle o steps = if is_clockwise o then turned (is_clockwise o) o.start (arch_steps o) steps else o.start % 180

-- along the outer edge of an arch from an angle, and back along the inner one
abbrev pub between_edges : ArchedBar → ℕ → ℕ → List SvgPoint
between_edges o start steps = arc (ring o 0) start steps ++ arc_back (ring o (10 * o.bar_width)) (start + steps) steps

-- the arch up to the value, or a line at the value
abbrev pub arch_part : ObjectMap → ArchedBar → Nodes
arch_part store o =
    if has_bit o.options 3
    then across_arch o o.colour (arch_value store o)
    else Along elements.Polygon (attributes.Fill (paints.Colour o.colour) ∷ []) (between_edges o (first_angle o (arch_value store o)) (arch_value store o)) nodes.None

abbrev pub arch_target : ObjectMap → ArchedBar → Nodes
arch_target store o = across_arch o o.target_colour (share (arch_steps o) o.min o.max (shown store o.target_variable o.target))

-- the outer and the inner edge
abbrev pub arch_border : ArchedBar → Nodes
arch_border o =
    Along elements.Polyline (plain_line o.colour 10) (arc (ring o 0) o.start (arch_steps o))
    (Along elements.Polyline (plain_line o.colour 10) (arc (ring o (10 * o.bar_width)) o.start (arch_steps o)) nodes.None)

-- the value, the border and the target
abbrev pub arch_shapes : ObjectMap → ArchedBar → Nodes
arch_shapes store o =
    followed (arch_part store o) (followed (when (has_bit o.options 0) (arch_border o)) (when (has_bit o.options 1) (arch_target store o)))
