-- The shapes of each kind of object (docs/PROFILE.md, "Pictures").
use Rattle.std.specs.Prelude.{ℕ, List, [], ◌∷◌}
use Rattle.vt_kinds.specs.declared.object.Object.TheVariants as objects
use Rattle.vt_kinds.specs.declared.keys.Button.{Button}
use Rattle.vt_kinds.specs.declared.keys.Key.{Key}
use Rattle.vt_kinds.specs.Records.{Seen}
use Rattle.vt_stores.specs.Stores.{ObjectMap}
use Rattle.check_needs.specs.declared.sizes.Sizes.{Sizes}
use Rattle.draw_svg.specs.declared.attribute.Attribute.{Attribute}
use Rattle.draw_svg.specs.declared.attribute.Attribute.TheVariants as attributes
use Rattle.draw_svg.specs.declared.attribute.Paint.TheVariants.{Colour}
use Rattle.draw_svg.specs.declared.element.Element.TheVariants as elements
use Rattle.draw_svg.specs.Elements.{Nodes, None, Empty}
use Rattle.draw_shapes.specs.Ellipses.{ellipse_shapes}
use Rattle.draw_shapes.specs.Gauges.{arch_shapes, bar_shapes, meter_shapes}
use Rattle.draw_shapes.specs.Texts.{input_boolean_shapes, input_list_shapes, input_number_shapes, input_string_shapes, output_number_shapes, output_string_shapes}
use Rattle.draw_shapes.specs.Lines.{line_shapes, polygon_shapes, rectangle_shapes}

abbrev pub grey : ℕ
grey = 8

abbrev pub box : ℕ → ℕ → List Attribute → Nodes
box width height others = Empty elements.Rect (attributes.Width width ∷ attributes.Height height ∷ others) None

abbrev pub key_shapes : Sizes → Key → Nodes
key_shapes sizes o = box sizes.key.width sizes.key.height (attributes.Fill (Colour o.colour) ∷ attributes.Stroke (Colour grey) ∷ [])

abbrev pub button_shapes : Button → Nodes
button_shapes o =
    box o.width o.height (attributes.Fill (Colour o.colour) ∷ attributes.Stroke (Colour o.border) ∷ attributes.StrokeWidth 4 ∷ [])

-- a picture that is written elsewhere, as large as its area
abbrev pub picture_shown : ℕ → Nodes
picture_shown id = Empty elements.Use (attributes.PictureShown id ∷ []) None

-- the shapes of an object, by its ID
abbrev pub shapes : Sizes → ObjectMap → ℕ → Seen → Nodes
shapes sizes store id (objects.Key o) = key_shapes sizes o
shapes sizes store id (objects.Button o) = button_shapes o
shapes sizes store id (objects.InputBoolean o) = input_boolean_shapes store o
shapes sizes store id (objects.InputString o) = input_string_shapes store o
shapes sizes store id (objects.InputNumber o) = input_number_shapes store o
shapes sizes store id (objects.InputList o) = input_list_shapes o
shapes sizes store id (objects.OutputString o) = output_string_shapes store o
shapes sizes store id (objects.OutputNumber o) = output_number_shapes store o
shapes sizes store id (objects.Line o) = line_shapes store o
shapes sizes store id (objects.Rectangle o) = rectangle_shapes store o
shapes sizes store id (objects.Ellipse o) = ellipse_shapes store o
shapes sizes store id (objects.Polygon o) = polygon_shapes store o
shapes sizes store id (objects.Meter o) = meter_shapes store o
shapes sizes store id (objects.LinearBar o) = bar_shapes store o
shapes sizes store id (objects.ArchedBar o) = arch_shapes store o
shapes sizes store id (objects.Picture o) = picture_shown id
shapes sizes store id _ = None
