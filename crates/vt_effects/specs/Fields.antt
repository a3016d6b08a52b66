-- What commands write: in an object of each kind the field of a name, with the lowest bytes of a value
-- (docs/PROFILE.md, "Attribute numbers").
use Rattle.std.specs.Prelude.{ℕ, ◌%◌, nat_le, if◌then◌else◌, List, Option, Some, None}
use Rattle.std.specs.Int.{w32, cast_signed}
use Rattle.std.specs.List.{fold}
use Rattle.vt_kinds.specs.declared.fields.Field.{Field}
use Rattle.vt_kinds.specs.declared.fields.Field.TheVariants as fields
use Rattle.vt_kinds.specs.declared.scale.Scale.{Scale}
use Rattle.vt_kinds.specs.Scales.{scale_at}
use Rattle.vt_kinds.specs.declared.masks.WorkingSet.{WorkingSet}
use Rattle.vt_kinds.specs.declared.masks.DataMask.{DataMask}
use Rattle.vt_kinds.specs.declared.masks.AlarmMask.{AlarmMask}
use Rattle.vt_kinds.specs.declared.masks.Container.{Container}
use Rattle.vt_kinds.specs.declared.keys.SoftKeyMask.{SoftKeyMask}
use Rattle.vt_kinds.specs.declared.keys.Key.{Key}
use Rattle.vt_kinds.specs.declared.keys.Button.{Button}
use Rattle.vt_kinds.specs.declared.input_fields.InputBoolean.{InputBoolean}
use Rattle.vt_kinds.specs.declared.input_fields.InputString.{InputString}
use Rattle.vt_kinds.specs.declared.input_fields.InputNumber.{InputNumber}
use Rattle.vt_kinds.specs.declared.input_fields.InputList.{InputList}
use Rattle.vt_kinds.specs.declared.output_fields.OutputString.{OutputString}
use Rattle.vt_kinds.specs.declared.output_fields.OutputNumber.{OutputNumber}
use Rattle.vt_kinds.specs.declared.shapes.Line.{Line}
use Rattle.vt_kinds.specs.declared.shapes.Rectangle.{Rectangle}
use Rattle.vt_kinds.specs.declared.shapes.Ellipse.{Ellipse}
use Rattle.vt_kinds.specs.declared.shapes.Polygon.{Polygon}
use Rattle.vt_kinds.specs.declared.graphs.Meter.{Meter}
use Rattle.vt_kinds.specs.declared.graphs.LinearBar.{LinearBar}
use Rattle.vt_kinds.specs.declared.graphs.ArchedBar.{ArchedBar}
use Rattle.vt_kinds.specs.declared.pictures.Picture.{Picture}
use Rattle.vt_kinds.specs.declared.attribute_objects.Font.{Font}
use Rattle.vt_kinds.specs.declared.attribute_objects.LineAttributes.{LineAttributes}
use Rattle.vt_kinds.specs.declared.attribute_objects.FillAttributes.{FillAttributes}
use Rattle.vt_kinds.specs.declared.attribute_objects.InputAttributes.{InputAttributes}
use Rattle.vt_kinds.specs.declared.variables.ObjectPointer.{ObjectPointer}
use Rattle.vt_kinds.specs.declared.object.Object.TheVariants as objects
use Rattle.vt_kinds.specs.Records.{Seen}

abbrev pub low_byte : ℕ → ℕ
low_byte n = n % 256

abbrev pub low_word : ℕ → ℕ
low_word n = n % 65536

-- the new scale, or the old one if there is none
abbrev pub or_scale : Scale → Option Scale → Scale
or_scale old None = old
or_scale old (Some scale) = scale

abbrev pub scale_of : Scale → ℕ → Scale
scale_of old n = or_scale old (scale_at n)

abbrev pub decimals_of : ℕ → ℕ → ℕ
decimals_of old n = if nat_le (low_byte n) 7 then low_byte n else old

abbrev pub working_set_with : Field → ℕ → WorkingSet → WorkingSet
working_set_with fields.Colour n o = record o { colour = low_byte n }
working_set_with fields.Selectable n o = record o { selectable = low_byte n }
working_set_with _ n o = o

abbrev pub data_mask_with : Field → ℕ → DataMask → DataMask
data_mask_with fields.Colour n o = record o { colour = low_byte n }
data_mask_with fields.SoftKeyMask n o = record o { soft_key_mask = low_word n }
data_mask_with _ n o = o

abbrev pub alarm_mask_with : Field → ℕ → AlarmMask → AlarmMask
alarm_mask_with fields.Colour n o = record o { colour = low_byte n }
alarm_mask_with fields.SoftKeyMask n o = record o { soft_key_mask = low_word n }
alarm_mask_with fields.Priority n o = record o { priority = low_byte n }
alarm_mask_with fields.Acoustic n o = record o { acoustic = low_byte n }
alarm_mask_with _ n o = o

abbrev pub container_with : Field → ℕ → Container → Container
container_with fields.Width n o = record o { width = low_word n }
container_with fields.Height n o = record o { height = low_word n }
container_with _ n o = o

abbrev pub soft_key_mask_with : Field → ℕ → SoftKeyMask → SoftKeyMask
soft_key_mask_with fields.Colour n o = record o { colour = low_byte n }
soft_key_mask_with _ n o = o

abbrev pub key_with : Field → ℕ → Key → Key
key_with fields.Colour n o = record o { colour = low_byte n }
key_with fields.KeyCode n o = record o { key_code = low_byte n }
key_with _ n o = o

abbrev pub button_with : Field → ℕ → Button → Button
button_with fields.Width n o = record o { width = low_word n }
button_with fields.Height n o = record o { height = low_word n }
button_with fields.Colour n o = record o { colour = low_byte n }
button_with fields.Border n o = record o { border = low_byte n }
button_with fields.KeyCode n o = record o { key_code = low_byte n }
button_with fields.Options n o = record o { options = low_byte n }
button_with _ n o = o

abbrev pub input_boolean_with : Field → ℕ → InputBoolean → InputBoolean
input_boolean_with fields.Colour n o = record o { colour = low_byte n }
input_boolean_with fields.Width n o = record o { width = low_word n }
input_boolean_with fields.Font n o = record o { font = low_word n }
input_boolean_with fields.Variable n o = record o { variable = low_word n }
input_boolean_with _ n o = o

abbrev pub input_string_with : Field → ℕ → InputString (List ℕ) → InputString (List ℕ)
input_string_with fields.Width n o = record o { width = low_word n }
input_string_with fields.Height n o = record o { height = low_word n }
input_string_with fields.Colour n o = record o { colour = low_byte n }
input_string_with fields.Font n o = record o { font = low_word n }
input_string_with fields.InputAttributes n o = record o { input_attributes = low_word n }
input_string_with fields.Options n o = record o { options = low_byte n }
input_string_with fields.Variable n o = record o { variable = low_word n }
input_string_with fields.Justification n o = record o { justification = low_byte n }
input_string_with _ n o = o

abbrev pub input_number_with : Field → ℕ → InputNumber → InputNumber
input_number_with fields.Width n o = record o { width = low_word n }
input_number_with fields.Height n o = record o { height = low_word n }
input_number_with fields.Colour n o = record o { colour = low_byte n }
input_number_with fields.Font n o = record o { font = low_word n }
input_number_with fields.Options n o = record o { options = low_byte n }
input_number_with fields.Variable n o = record o { variable = low_word n }
input_number_with fields.Min n o = record o { min = n }
input_number_with fields.Max n o = record o { max = n }
input_number_with fields.Offset n o = record o { offset = cast_signed w32 n }
input_number_with fields.Scale n o = record o { scale = scale_of o.scale n }
input_number_with fields.Decimals n o = record o { decimals = decimals_of o.decimals n }
input_number_with fields.Format n o = record o { format = low_byte n }
input_number_with fields.Justification n o = record o { justification = low_byte n }
input_number_with _ n o = o

abbrev pub input_list_with : Field → ℕ → InputList → InputList
input_list_with fields.Width n o = record o { width = low_word n }
input_list_with fields.Height n o = record o { height = low_word n }
input_list_with fields.Variable n o = record o { variable = low_word n }
input_list_with fields.Options n o = record o { options = low_byte n }
input_list_with _ n o = o

abbrev pub output_string_with : Field → ℕ → OutputString (List ℕ) → OutputString (List ℕ)
output_string_with fields.Width n o = record o { width = low_word n }
output_string_with fields.Height n o = record o { height = low_word n }
output_string_with fields.Colour n o = record o { colour = low_byte n }
output_string_with fields.Font n o = record o { font = low_word n }
output_string_with fields.Options n o = record o { options = low_byte n }
output_string_with fields.Variable n o = record o { variable = low_word n }
output_string_with fields.Justification n o = record o { justification = low_byte n }
output_string_with _ n o = o

abbrev pub output_number_with : Field → ℕ → OutputNumber → OutputNumber
output_number_with fields.Width n o = record o { width = low_word n }
output_number_with fields.Height n o = record o { height = low_word n }
output_number_with fields.Colour n o = record o { colour = low_byte n }
output_number_with fields.Font n o = record o { font = low_word n }
output_number_with fields.Options n o = record o { options = low_byte n }
output_number_with fields.Variable n o = record o { variable = low_word n }
output_number_with fields.Offset n o = record o { offset = cast_signed w32 n }
output_number_with fields.Scale n o = record o { scale = scale_of o.scale n }
output_number_with fields.Decimals n o = record o { decimals = decimals_of o.decimals n }
output_number_with fields.Format n o = record o { format = low_byte n }
output_number_with fields.Justification n o = record o { justification = low_byte n }
output_number_with _ n o = o

abbrev pub line_with : Field → ℕ → Line → Line
line_with fields.LineAttributes n o = record o { line_attributes = low_word n }
line_with fields.Width n o = record o { width = low_word n }
line_with fields.Height n o = record o { height = low_word n }
line_with fields.Direction n o = record o { direction = low_byte n }
line_with _ n o = o

abbrev pub rectangle_with : Field → ℕ → Rectangle → Rectangle
rectangle_with fields.LineAttributes n o = record o { line_attributes = low_word n }
rectangle_with fields.Width n o = record o { width = low_word n }
rectangle_with fields.Height n o = record o { height = low_word n }
rectangle_with fields.Suppression n o = record o { suppression = low_byte n }
rectangle_with fields.Fill n o = record o { fill = low_word n }
rectangle_with _ n o = o

abbrev pub ellipse_with : Field → ℕ → Ellipse → Ellipse
ellipse_with fields.LineAttributes n o = record o { line_attributes = low_word n }
ellipse_with fields.Width n o = record o { width = low_word n }
ellipse_with fields.Height n o = record o { height = low_word n }
ellipse_with fields.Type n o = record o { ellipse_type = low_byte n }
ellipse_with fields.Start n o = record o { start = low_byte n }
ellipse_with fields.End n o = record o { end = low_byte n }
ellipse_with fields.Fill n o = record o { fill = low_word n }
ellipse_with _ n o = o

abbrev pub polygon_with : Field → ℕ → Polygon → Polygon
polygon_with fields.Width n o = record o { width = low_word n }
polygon_with fields.Height n o = record o { height = low_word n }
polygon_with fields.LineAttributes n o = record o { line_attributes = low_word n }
polygon_with fields.Fill n o = record o { fill = low_word n }
polygon_with fields.Type n o = record o { polygon_type = low_byte n }
polygon_with _ n o = o

abbrev pub meter_with : Field → ℕ → Meter → Meter
meter_with fields.Width n o = record o { width = low_word n }
meter_with fields.NeedleColour n o = record o { needle_colour = low_byte n }
meter_with fields.BorderColour n o = record o { border_colour = low_byte n }
meter_with fields.ArcColour n o = record o { arc_colour = low_byte n }
meter_with fields.Options n o = record o { options = low_byte n }
meter_with fields.Ticks n o = record o { ticks = low_byte n }
meter_with fields.Start n o = record o { start = low_byte n }
meter_with fields.End n o = record o { end = low_byte n }
meter_with fields.Min n o = record o { min = low_word n }
meter_with fields.Max n o = record o { max = low_word n }
meter_with fields.Variable n o = record o { variable = low_word n }
meter_with _ n o = o

abbrev pub linear_bar_with : Field → ℕ → LinearBar → LinearBar
linear_bar_with fields.Width n o = record o { width = low_word n }
linear_bar_with fields.Height n o = record o { height = low_word n }
linear_bar_with fields.Colour n o = record o { colour = low_byte n }
linear_bar_with fields.TargetColour n o = record o { target_colour = low_byte n }
linear_bar_with fields.Options n o = record o { options = low_byte n }
linear_bar_with fields.Ticks n o = record o { ticks = low_byte n }
linear_bar_with fields.Min n o = record o { min = low_word n }
linear_bar_with fields.Max n o = record o { max = low_word n }
linear_bar_with fields.Variable n o = record o { variable = low_word n }
linear_bar_with fields.TargetVariable n o = record o { target_variable = low_word n }
linear_bar_with fields.Target n o = record o { target = low_word n }
linear_bar_with _ n o = o

abbrev pub arched_bar_with : Field → ℕ → ArchedBar → ArchedBar
arched_bar_with fields.Width n o = record o { width = low_word n }
arched_bar_with fields.Height n o = record o { height = low_word n }
arched_bar_with fields.Colour n o = record o { colour = low_byte n }
arched_bar_with fields.TargetColour n o = record o { target_colour = low_byte n }
arched_bar_with fields.Options n o = record o { options = low_byte n }
arched_bar_with fields.Start n o = record o { start = low_byte n }
arched_bar_with fields.End n o = record o { end = low_byte n }
arched_bar_with fields.BarWidth n o = record o { bar_width = low_word n }
arched_bar_with fields.Min n o = record o { min = low_word n }
arched_bar_with fields.Max n o = record o { max = low_word n }
arched_bar_with fields.Variable n o = record o { variable = low_word n }
arched_bar_with fields.TargetVariable n o = record o { target_variable = low_word n }
arched_bar_with fields.Target n o = record o { target = low_word n }
arched_bar_with _ n o = o

abbrev pub picture_with : Field → ℕ → Picture (List ℕ) → Picture (List ℕ)
picture_with fields.Width n o = record o { width = low_word n }
picture_with fields.Options n o = record o { options = low_byte n }
picture_with fields.Transparency n o = record o { transparency = low_byte n }
picture_with _ n o = o

abbrev pub font_with : Field → ℕ → Font → Font
font_with fields.Colour n o = record o { colour = low_byte n }
font_with fields.Size n o = record o { size = low_byte n }
font_with fields.Type n o = record o { font_type = low_byte n }
font_with fields.Style n o = record o { style = low_byte n }
font_with _ n o = o

abbrev pub line_attributes_with : Field → ℕ → LineAttributes → LineAttributes
line_attributes_with fields.Colour n o = record o { colour = low_byte n }
line_attributes_with fields.Width n o = record o { width = low_byte n }
line_attributes_with fields.LineArt n o = record o { line_art = low_word n }
line_attributes_with _ n o = o

abbrev pub fill_attributes_with : Field → ℕ → FillAttributes → FillAttributes
fill_attributes_with fields.Type n o = record o { fill_type = low_byte n }
fill_attributes_with fields.Colour n o = record o { colour = low_byte n }
fill_attributes_with fields.Pattern n o = record o { pattern = low_word n }
fill_attributes_with _ n o = o

abbrev pub input_attributes_with : Field → ℕ → InputAttributes (List ℕ) → InputAttributes (List ℕ)
input_attributes_with fields.ValidationType n o = record o { validation_type = low_byte n }
input_attributes_with _ n o = o

abbrev pub object_pointer_with : Field → ℕ → ObjectPointer → ObjectPointer
object_pointer_with fields.Value n o = record o { value = low_word n }
object_pointer_with _ n o = o

-- an object with a new value in one field
abbrev pub with_field : Field → ℕ → Seen → Seen
with_field field n (objects.WorkingSet o) = objects.WorkingSet (working_set_with field n o)
with_field field n (objects.DataMask o) = objects.DataMask (data_mask_with field n o)
with_field field n (objects.AlarmMask o) = objects.AlarmMask (alarm_mask_with field n o)
with_field field n (objects.Container o) = objects.Container (container_with field n o)
with_field field n (objects.SoftKeyMask o) = objects.SoftKeyMask (soft_key_mask_with field n o)
with_field field n (objects.Key o) = objects.Key (key_with field n o)
with_field field n (objects.Button o) = objects.Button (button_with field n o)
with_field field n (objects.InputBoolean o) = objects.InputBoolean (input_boolean_with field n o)
with_field field n (objects.InputString o) = objects.InputString (input_string_with field n o)
with_field field n (objects.InputNumber o) = objects.InputNumber (input_number_with field n o)
with_field field n (objects.InputList o) = objects.InputList (input_list_with field n o)
with_field field n (objects.OutputString o) = objects.OutputString (output_string_with field n o)
with_field field n (objects.OutputNumber o) = objects.OutputNumber (output_number_with field n o)
with_field field n (objects.Line o) = objects.Line (line_with field n o)
with_field field n (objects.Rectangle o) = objects.Rectangle (rectangle_with field n o)
with_field field n (objects.Ellipse o) = objects.Ellipse (ellipse_with field n o)
with_field field n (objects.Polygon o) = objects.Polygon (polygon_with field n o)
with_field field n (objects.Meter o) = objects.Meter (meter_with field n o)
with_field field n (objects.LinearBar o) = objects.LinearBar (linear_bar_with field n o)
with_field field n (objects.ArchedBar o) = objects.ArchedBar (arched_bar_with field n o)
with_field field n (objects.Picture o) = objects.Picture (picture_with field n o)
with_field field n (objects.Font o) = objects.Font (font_with field n o)
with_field field n (objects.LineAttributes o) = objects.LineAttributes (line_attributes_with field n o)
with_field field n (objects.FillAttributes o) = objects.FillAttributes (fill_attributes_with field n o)
with_field field n (objects.InputAttributes o) = objects.InputAttributes (input_attributes_with field n o)
with_field field n (objects.ObjectPointer o) = objects.ObjectPointer (object_pointer_with field n o)
with_field field n o = o

-- an object with other values of some fields, written one after the other
abbrev pub with_fields : List (Field × ℕ) → Seen → Seen
with_fields values o = fold (λ object entry. with_field entry.0 entry.1 object) o values
