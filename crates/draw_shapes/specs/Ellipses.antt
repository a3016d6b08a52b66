-- Ellipses (docs/PROFILE.md, "Shapes"). Lengths are in tenths of a pixel.
use Rattle.std.specs.Prelude.{◌-◌, ◌*◌, ◌%◌, Bool, nat_lt, ◌==◌, ◌&&◌, ◌||◌, if◌then◌else◌, List, [], ◌∷◌, ◌++◌}
use Rattle.std.specs.FinMap as finite
use Rattle.vt_kinds.specs.declared.shapes.Ellipse.{Ellipse}
use Rattle.vt_stores.specs.Stores.{ObjectMap}
use Rattle.draw_svg.specs.declared.attribute.Attribute.TheVariants as attributes
use Rattle.draw_svg.specs.declared.attribute.Paint.{Paint}
use Rattle.draw_svg.specs.declared.attribute.Paint.TheVariants as paints
use Rattle.draw_svg.specs.declared.element.Element.{Element}
use Rattle.draw_svg.specs.declared.element.Element.TheVariants as elements
use Rattle.draw_svg.specs.declared.points.SvgPoint.{SvgPoint}
use Rattle.draw_svg.specs.Elements.{Nodes, None, Along, Empty}
use Rattle.draw_shapes.specs.declared.pen.Pen.{Pen}
use Rattle.draw_shapes.specs.declared.shapes.arcs.Oval.{Oval}
use Rattle.draw_shapes.specs.Arcs.{arc, sweep}
use Rattle.draw_shapes.specs.Lines.{point}
use Rattle.draw_shapes.specs.Pens.{pen_of, fill_of, drawn_with, half}

-- half the width of its line within the area
abbrev pub oval_of : Pen → Ellipse → Oval
oval_of pen o = record { x = 5 * o.width; y = 5 * o.height; radius_x = 5 * o.width - half pen; radius_y = 5 * o.height - half pen }

abbrev pub centre : Ellipse → SvgPoint
centre o = point (5 * o.width) (5 * o.height)

abbrev pub arc_of : Pen → Ellipse → List SvgPoint
arc_of pen o = arc (oval_of pen o) o.start (sweep o.start o.end)

abbrev pub whole : Paint → Pen → Ellipse → Nodes
whole paint pen o =
    Empty elements.Ellipse
    (attributes.CentreX (5 * o.width) ∷ attributes.CentreY (5 * o.height) ∷ attributes.RadiusX (5 * o.width - half pen) ∷ attributes.RadiusY (5 * o.height - half pen)
    ∷ drawn_with paint pen) None

abbrev pub arc_shape : Element → Paint → Pen → Ellipse → Nodes
arc_shape element paint pen o = Along element (drawn_with paint pen) (arc_of pen o) None

abbrev pub section : Paint → Pen → Ellipse → Nodes
section paint pen o = Along elements.Polygon (drawn_with paint pen) (arc_of pen o ++ centre o ∷ []) None

-- an ellipse of type 0, or a segment or a section from an angle to itself
abbrev pub is_whole : Ellipse → Bool
is_whole o = o.ellipse_type == 0 || (nat_lt 1 o.ellipse_type && o.start % 180 == o.end % 180)

-- a whole ellipse, an arc, a segment closed by a line, or a section closed through the centre
abbrev pub ellipse_outline : Paint → Pen → Ellipse → Nodes
ellipse_outline paint pen o =
    if is_whole o then whole paint pen o
    else if o.ellipse_type == 1 then arc_shape elements.Polyline paints.None pen o
    else if o.ellipse_type == 2 then arc_shape elements.Polygon paint pen o
    else section paint pen o

abbrev pub ellipse_shapes : ObjectMap → Ellipse → Nodes
ellipse_shapes store o =
    ellipse_outline (fill_of store (finite.get store o.fill) (pen_of (finite.get store o.line_attributes))) (pen_of (finite.get store o.line_attributes)) o
