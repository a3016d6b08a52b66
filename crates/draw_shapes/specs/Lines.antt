-- Lines, rectangles and polygons (docs/PROFILE.md, "Shapes"). Lengths are in tenths of a pixel.
use Rattle.std.specs.Prelude.{ℕ, ◌+◌, ◌*◌, ◌/◌, ◌%◌, ◌==◌, if◌then◌else◌, List, [], ◌∷◌, ◌++◌, map}
use Rattle.std.specs.FinMap as finite
use Rattle.vt_kinds.specs.declared.entries.Point as corners
use Rattle.vt_kinds.specs.declared.shapes.Line.{Line}
use Rattle.vt_kinds.specs.declared.shapes.Rectangle.{Rectangle}
use Rattle.vt_kinds.specs.declared.shapes.Polygon.{Polygon}
use Rattle.vt_stores.specs.Stores.{ObjectMap}
use Rattle.draw_svg.specs.declared.attribute.Attribute.{Attribute}
use Rattle.draw_svg.specs.declared.attribute.Attribute.TheVariants as attributes
use Rattle.draw_svg.specs.declared.attribute.Paint.{Paint}
use Rattle.draw_svg.specs.declared.attribute.Paint.TheVariants as paints
use Rattle.draw_svg.specs.declared.element.Element.TheVariants as elements
use Rattle.draw_svg.specs.declared.points.SvgPoint.{SvgPoint}
use Rattle.draw_svg.specs.Elements.{Nodes, None, Along, Empty}
use Rattle.draw_shapes.specs.declared.pen.Pen.{Pen}
use Rattle.draw_shapes.specs.Pens.{no_pen, pen_of, fill_of, drawn_with, half, far}

abbrev pub point : ℕ → ℕ → SvgPoint
point x y = record { x = x; y = y }

-- from the upper left corner to the lower right one, or from the lower left to the upper right
abbrev pub line_points : Pen → Line → List SvgPoint
line_points pen o =
    if o.direction == 0
    then point (half pen) (half pen) ∷ point (far pen o.width) (far pen o.height) ∷ []
    else point (half pen) (far pen o.height) ∷ point (far pen o.width) (half pen) ∷ []

-- a line alone, with ends that reach its corners
abbrev pub line_attributes : Pen → List Attribute
line_attributes pen = drawn_with paints.None pen ++ attributes.LineEnds pen.art ∷ []

abbrev pub line_shapes : ObjectMap → Line → Nodes
line_shapes store o =
    let pen = pen_of (finite.get store o.line_attributes) in
    Along elements.Polyline (line_attributes pen) (line_points pen o) None

-- ---- rectangles

abbrev pub inside_attributes : Paint → Rectangle → List Attribute
inside_attributes paint o = attributes.Width (10 * o.width) ∷ attributes.Height (10 * o.height) ∷ attributes.Fill paint ∷ []

-- the pen of a side: none if its bit is set
abbrev pub unless : ℕ → Pen → Pen
unless bit pen = if bit == 1 then no_pen else pen

abbrev pub side : Pen → SvgPoint → SvgPoint → Nodes → Nodes
side pen first last later = Along elements.Polyline (drawn_with paints.None pen) (first ∷ last ∷ []) later

-- the upper, the right, the lower and the left side
abbrev pub sides : Pen → Rectangle → Nodes
sides pen o =
    side (unless (o.suppression % 2) pen) (point 0 (half pen)) (point (10 * o.width) (half pen))
    (side (unless (o.suppression / 2 % 2) pen) (point (far pen o.width) 0) (point (far pen o.width) (10 * o.height))
    (side (unless (o.suppression / 4 % 2) pen) (point 0 (far pen o.height)) (point (10 * o.width) (far pen o.height))
    (side (unless (o.suppression / 8 % 2) pen) (point (half pen) 0) (point (half pen) (10 * o.height)) None)))

abbrev pub rectangle_shapes : ObjectMap → Rectangle → Nodes
rectangle_shapes store o =
    let pen = pen_of (finite.get store o.line_attributes) in
    Empty elements.Rect (inside_attributes (fill_of store (finite.get store o.fill) pen) o) (sides pen o)

-- ---- polygons

-- the middle of the pixel of a point
abbrev pub middle : corners.Point → SvgPoint
middle p = point (10 * p.x + 5) (10 * p.y + 5)

abbrev pub polygon_outline : ObjectMap → Polygon → Pen → Nodes
polygon_outline store o pen =
    if o.polygon_type == 3
    then Along elements.Polyline (drawn_with paints.None pen) (map middle o.points) None
    else Along elements.Polygon (drawn_with (fill_of store (finite.get store o.fill) pen) pen) (map middle o.points) None

abbrev pub polygon_shapes : ObjectMap → Polygon → Nodes
polygon_shapes store o = polygon_outline store o (pen_of (finite.get store o.line_attributes))
