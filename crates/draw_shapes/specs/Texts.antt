-- Fields of each kind, with what they show (docs/PROFILE.md, "Fields").
use Rattle.std.specs.Prelude.{ℕ, pos, ◌+◌, ◌+ℤ◌, ◌*◌, ◌/◌, ◌%◌, Bool, true, false, ◌==◌, if◌then◌else◌, List, [], ◌∷◌, Option, Some, None}
use Rattle.std.specs.Option.{option_map}
use Rattle.std.specs.FinMap as finite
use Rattle.vt_kinds.specs.declared.input_fields.InputBoolean.{InputBoolean}
use Rattle.vt_kinds.specs.declared.input_fields.InputString.{InputString}
use Rattle.vt_kinds.specs.declared.input_fields.InputNumber.{InputNumber}
use Rattle.vt_kinds.specs.declared.input_fields.InputList.{InputList}
use Rattle.vt_kinds.specs.declared.output_fields.OutputString.{OutputString}
use Rattle.vt_kinds.specs.declared.output_fields.OutputNumber.{OutputNumber}
use Rattle.vt_kinds.specs.Scales.{scale_places}
use Rattle.vt_objects.specs.Decimals.{shown_text}
use Rattle.vt_stores.specs.Stores.{ObjectMap}
use Rattle.vt_shown.specs.ShownElements.{number_shown}
use Rattle.vt_layout.specs.Lines.{text_shown}
use Rattle.check_needs.specs.declared.sizes.Area.{Area}
use Rattle.draw_svg.specs.declared.attribute.Attribute.TheVariants as attributes
use Rattle.draw_svg.specs.declared.attribute.Paint.{Paint}
use Rattle.draw_svg.specs.declared.attribute.Paint.TheVariants as paints
use Rattle.draw_svg.specs.declared.element.Element.TheVariants as elements
use Rattle.draw_svg.specs.Elements.{Nodes, Along, Empty}
use Rattle.draw_svg.specs.Elements as nodes
use Rattle.draw_shapes.specs.declared.shapes.fields.Field.{Field}
use Rattle.draw_shapes.specs.declared.shapes.fields.Look.{Look}
use Rattle.draw_shapes.specs.Bits.{has_bit}
use Rattle.draw_shapes.specs.Fields.{field_shapes, look_of}
use Rattle.draw_shapes.specs.Lines.{point}

-- the border of an input: blue if it is enabled, and else grey
abbrev pub input_border : Bool → Paint
input_border is_disabled = paints.Colour (if is_disabled then 8 else 9)

abbrev pub area : ℕ → ℕ → Area
area width height = record { width = width; height = height }

-- ---- texts

abbrev pub input_string_field : InputString (List ℕ) → Field
input_string_field o = record {
  area = area o.width o.height;
  colour = o.colour;
  is_transparent = has_bit o.options 0;
  wraps = has_bit o.options 1;
  justification = o.justification;
  border = input_border (o.enabled == 0);
}

abbrev pub input_string_shapes : ObjectMap → InputString (List ℕ) → Nodes
input_string_shapes store o = field_shapes (look_of (finite.get store o.font)) (input_string_field o) (text_shown store o.variable o.text)

abbrev pub output_string_field : OutputString (List ℕ) → Field
output_string_field o = record {
  area = area o.width o.height;
  colour = o.colour;
  is_transparent = has_bit o.options 0;
  wraps = has_bit o.options 1;
  justification = o.justification;
  border = paints.None;
}

abbrev pub output_string_shapes : ObjectMap → OutputString (List ℕ) → Nodes
output_string_shapes store o = field_shapes (look_of (finite.get store o.font)) (output_string_field o) (text_shown store o.variable o.text)

-- ---- numbers

abbrev pub input_number_field : InputNumber → Field
input_number_field o = record {
  area = area o.width o.height;
  colour = o.colour;
  is_transparent = has_bit o.options 0;
  wraps = false;
  justification = o.justification;
  border = input_border (o.options_two % 2 == 0);
}

abbrev pub input_number_text : ObjectMap → InputNumber → Option (List ℕ)
input_number_text store o = option_map (λ n. shown_text (pos n +ℤ o.offset) (scale_places o.scale) o.decimals) (number_shown store o.variable o.value)

abbrev pub input_number_shapes : ObjectMap → InputNumber → Nodes
input_number_shapes store o = field_shapes (look_of (finite.get store o.font)) (input_number_field o) (input_number_text store o)

abbrev pub output_number_field : OutputNumber → Field
output_number_field o = record {
  area = area o.width o.height;
  colour = o.colour;
  is_transparent = has_bit o.options 0;
  wraps = false;
  justification = o.justification;
  border = paints.None;
}

abbrev pub output_number_text : ObjectMap → OutputNumber → Option (List ℕ)
output_number_text store o = option_map (λ n. shown_text (pos n +ℤ o.offset) (scale_places o.scale) o.decimals) (number_shown store o.variable o.value)

abbrev pub output_number_shapes : ObjectMap → OutputNumber → Nodes
output_number_shapes store o = field_shapes (look_of (finite.get store o.font)) (output_number_field o) (output_number_text store o)

-- ---- lists: the item is an element within the list

abbrev pub input_list_field : InputList → Field
input_list_field o = record {
  area = area o.width o.height;
  colour = 0;
  is_transparent = true;
  wraps = false;
  justification = 0;
  border = input_border (o.options % 2 == 0);
}

abbrev pub input_list_shapes : InputList → Nodes
input_list_shapes o = field_shapes None (input_list_field o) None

-- ---- booleans

abbrev pub input_boolean_field : InputBoolean → Field
input_boolean_field o = record {
  area = area o.width o.width;
  colour = o.colour;
  is_transparent = false;
  wraps = false;
  justification = 0;
  border = input_border (o.enabled == 0);
}

-- the colour of a font's characters; black without a font
abbrev pub colour_of : Option Look → ℕ
colour_of None = 0
colour_of (Some look) = look.colour

-- a check mark in a square
abbrev pub check_mark : Option Look → ℕ → Nodes
check_mark look width =
    Along elements.Polyline
    (attributes.Fill paints.None ∷ attributes.Stroke (paints.Colour (colour_of look)) ∷ attributes.StrokeWidth (width / 10 + 1) ∷ [])
    (point (width / 5) (width / 2) ∷ point (width * 9 / 20) (width * 3 / 4) ∷ point (width * 17 / 20) (width / 4) ∷ []) nodes.None

-- nothing for false, and where the variable is missing
abbrev pub check_mark_if : Option Look → ℕ → Option ℕ → Nodes
check_mark_if look width None = nodes.None
check_mark_if look width (Some n) = if n == 0 then nodes.None else check_mark look width

abbrev pub input_boolean_shapes : ObjectMap → InputBoolean → Nodes
input_boolean_shapes store o =
    nodes.followed (field_shapes None (input_boolean_field o) None)
    (check_mark_if (look_of (finite.get store o.font)) o.width (number_shown store o.variable o.value))
