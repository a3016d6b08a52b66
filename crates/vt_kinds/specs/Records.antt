-- The record of an object under an ID (docs/PROFILE.md, "Records").
use Rattle.std.specs.Prelude.{◌<◌, ℕ, List, [], ◌∷◌, ◌++◌, Option}
use Rattle.byteorder.specs.Endian.{little_bytes}
use Rattle.vt_kinds.specs.declared.kind.Kind.{Kind}
use Rattle.vt_kinds.specs.declared.entries.MacroEntry.{MacroEntry}
use Rattle.vt_kinds.specs.declared.kind.Kind.TheVariants as kinds
use Rattle.vt_kinds.specs.declared.input_fields.InputString.{InputString}
use Rattle.vt_kinds.specs.declared.output_fields.OutputString.{OutputString}
use Rattle.vt_kinds.specs.declared.pictures.Picture.{Picture}
use Rattle.vt_kinds.specs.declared.variables.StringVariable.{StringVariable}
use Rattle.vt_kinds.specs.declared.attribute_objects.InputAttributes.{InputAttributes}
use Rattle.vt_kinds.specs.declared.macros.Macro.{Macro}
use Rattle.vt_kinds.specs.declared.object.Object.{Object}
use Rattle.vt_kinds.specs.declared.object.Object.TheVariants as objects
use Rattle.vt_kinds.specs.declared.fields.Field as names
use Rattle.vt_kinds.specs.Ids.{null_id}
use Rattle.vt_kinds.specs.Layout.{RecordField, Value, fields, names_in, values, fields_spelling, FieldsFit, Proper, no_counts}
use Rattle.vt_kinds.specs.Kinds.{kind_number}
use Rattle.vt_kinds.specs.Tables.{working_set, data_mask, alarm_mask, container, soft_key_mask, key, button, input_boolean, input_string, input_number, input_list, output_string, output_number, line, rectangle, ellipse, polygon, meter, linear_bar, arched_bar, picture, number_variable, string_variable, font, line_attributes, fill_attributes, input_attributes, object_pointer, macro_object}

-- ---- views of objects that do not depend on their byte buffers

abbrev pub seen_input_string : {B : Type 0} → InputString B → InputString (List ℕ)
seen_input_string o = record {
  width = o.width;
  height = o.height;
  colour = o.colour;
  font = o.font;
  input_attributes = o.input_attributes;
  options = o.options;
  variable = o.variable;
  justification = o.justification;
  text = o.text;
  enabled = o.enabled;
  macros = o.macros;
}

abbrev pub seen_output_string : {B : Type 0} → OutputString B → OutputString (List ℕ)
seen_output_string o = record {
  width = o.width;
  height = o.height;
  colour = o.colour;
  font = o.font;
  options = o.options;
  variable = o.variable;
  justification = o.justification;
  text = o.text;
  macros = o.macros;
}

abbrev pub seen_picture : {B : Type 0} → Picture B → Picture (List ℕ)
seen_picture o = record {
  width = o.width;
  actual_width = o.actual_width;
  actual_height = o.actual_height;
  format = o.format;
  options = o.options;
  transparency = o.transparency;
  bytes = o.bytes;
  macros = o.macros;
}

abbrev pub seen_string_variable : {B : Type 0} → StringVariable B → StringVariable (List ℕ)
seen_string_variable o = record { text = o.text }

abbrev pub seen_input_attributes : {B : Type 0} → InputAttributes B → InputAttributes (List ℕ)
seen_input_attributes o = record { validation_type = o.validation_type; text = o.text; macros = o.macros }

abbrev pub seen_macro_object : {B : Type 0} → Macro B → Macro (List ℕ)
seen_macro_object o = record { bytes = o.bytes }

-- The view of an object in contracts: its texts, picture and macro bytes are lists of bytes.
abbrev pub Seen : Type 0
Seen = Object (List ℕ)

abbrev pub seen : {B : Type 0} → Object B → Seen
seen (objects.WorkingSet o) = objects.WorkingSet o
seen (objects.DataMask o) = objects.DataMask o
seen (objects.AlarmMask o) = objects.AlarmMask o
seen (objects.Container o) = objects.Container o
seen (objects.SoftKeyMask o) = objects.SoftKeyMask o
seen (objects.Key o) = objects.Key o
seen (objects.Button o) = objects.Button o
seen (objects.InputBoolean o) = objects.InputBoolean o
seen (objects.InputString o) = objects.InputString (seen_input_string o)
seen (objects.InputNumber o) = objects.InputNumber o
seen (objects.InputList o) = objects.InputList o
seen (objects.OutputString o) = objects.OutputString (seen_output_string o)
seen (objects.OutputNumber o) = objects.OutputNumber o
seen (objects.Line o) = objects.Line o
seen (objects.Rectangle o) = objects.Rectangle o
seen (objects.Ellipse o) = objects.Ellipse o
seen (objects.Polygon o) = objects.Polygon o
seen (objects.Meter o) = objects.Meter o
seen (objects.LinearBar o) = objects.LinearBar o
seen (objects.ArchedBar o) = objects.ArchedBar o
seen (objects.Picture o) = objects.Picture (seen_picture o)
seen (objects.NumberVariable o) = objects.NumberVariable o
seen (objects.StringVariable o) = objects.StringVariable (seen_string_variable o)
seen (objects.Font o) = objects.Font o
seen (objects.LineAttributes o) = objects.LineAttributes o
seen (objects.FillAttributes o) = objects.FillAttributes o
seen (objects.InputAttributes o) = objects.InputAttributes (seen_input_attributes o)
seen (objects.ObjectPointer o) = objects.ObjectPointer o
seen (objects.Macro o) = objects.Macro (seen_macro_object o)

abbrev pub kind_of : {B : Type 0} → Object B → Kind
kind_of (objects.WorkingSet o) = kinds.WorkingSet
kind_of (objects.DataMask o) = kinds.DataMask
kind_of (objects.AlarmMask o) = kinds.AlarmMask
kind_of (objects.Container o) = kinds.Container
kind_of (objects.SoftKeyMask o) = kinds.SoftKeyMask
kind_of (objects.Key o) = kinds.Key
kind_of (objects.Button o) = kinds.Button
kind_of (objects.InputBoolean o) = kinds.InputBoolean
kind_of (objects.InputString o) = kinds.InputString
kind_of (objects.InputNumber o) = kinds.InputNumber
kind_of (objects.InputList o) = kinds.InputList
kind_of (objects.OutputString o) = kinds.OutputString
kind_of (objects.OutputNumber o) = kinds.OutputNumber
kind_of (objects.Line o) = kinds.Line
kind_of (objects.Rectangle o) = kinds.Rectangle
kind_of (objects.Ellipse o) = kinds.Ellipse
kind_of (objects.Polygon o) = kinds.Polygon
kind_of (objects.Meter o) = kinds.Meter
kind_of (objects.LinearBar o) = kinds.LinearBar
kind_of (objects.ArchedBar o) = kinds.ArchedBar
kind_of (objects.Picture o) = kinds.Picture
kind_of (objects.NumberVariable o) = kinds.NumberVariable
kind_of (objects.StringVariable o) = kinds.StringVariable
kind_of (objects.Font o) = kinds.Font
kind_of (objects.LineAttributes o) = kinds.LineAttributes
kind_of (objects.FillAttributes o) = kinds.FillAttributes
kind_of (objects.InputAttributes o) = kinds.InputAttributes
kind_of (objects.ObjectPointer o) = kinds.ObjectPointer
kind_of (objects.Macro o) = kinds.Macro

-- ---- the macros of an object's events

abbrev pub macros_of : {B : Type 0} → Object B → List MacroEntry
macros_of (objects.WorkingSet o) = o.macros
macros_of (objects.DataMask o) = o.macros
macros_of (objects.AlarmMask o) = o.macros
macros_of (objects.Container o) = o.macros
macros_of (objects.SoftKeyMask o) = o.macros
macros_of (objects.Key o) = o.macros
macros_of (objects.Button o) = o.macros
macros_of (objects.InputBoolean o) = o.macros
macros_of (objects.InputString o) = o.macros
macros_of (objects.InputNumber o) = o.macros
macros_of (objects.InputList o) = o.macros
macros_of (objects.OutputString o) = o.macros
macros_of (objects.OutputNumber o) = o.macros
macros_of (objects.Line o) = o.macros
macros_of (objects.Rectangle o) = o.macros
macros_of (objects.Ellipse o) = o.macros
macros_of (objects.Polygon o) = o.macros
macros_of (objects.Meter o) = o.macros
macros_of (objects.LinearBar o) = o.macros
macros_of (objects.ArchedBar o) = o.macros
macros_of (objects.Picture o) = o.macros
macros_of (objects.Font o) = o.macros
macros_of (objects.LineAttributes o) = o.macros
macros_of (objects.FillAttributes o) = o.macros
macros_of (objects.InputAttributes o) = o.macros
macros_of (objects.NumberVariable o) = []
macros_of (objects.StringVariable o) = []
macros_of (objects.ObjectPointer o) = []
macros_of (objects.Macro o) = []

-- ---- the table of each kind

abbrev pub fields_of : Kind → List RecordField
fields_of kinds.WorkingSet = fields working_set
fields_of kinds.DataMask = fields data_mask
fields_of kinds.AlarmMask = fields alarm_mask
fields_of kinds.Container = fields container
fields_of kinds.SoftKeyMask = fields soft_key_mask
fields_of kinds.Key = fields key
fields_of kinds.Button = fields button
fields_of kinds.InputBoolean = fields input_boolean
fields_of kinds.InputString = fields (input_string {B = List ℕ})
fields_of kinds.InputNumber = fields input_number
fields_of kinds.InputList = fields input_list
fields_of kinds.OutputString = fields (output_string {B = List ℕ})
fields_of kinds.OutputNumber = fields output_number
fields_of kinds.Line = fields line
fields_of kinds.Rectangle = fields rectangle
fields_of kinds.Ellipse = fields ellipse
fields_of kinds.Polygon = fields polygon
fields_of kinds.Meter = fields meter
fields_of kinds.LinearBar = fields linear_bar
fields_of kinds.ArchedBar = fields arched_bar
fields_of kinds.Picture = fields (picture {B = List ℕ})
fields_of kinds.NumberVariable = fields number_variable
fields_of kinds.StringVariable = fields (string_variable {B = List ℕ})
fields_of kinds.Font = fields font
fields_of kinds.LineAttributes = fields line_attributes
fields_of kinds.FillAttributes = fields fill_attributes
fields_of kinds.InputAttributes = fields (input_attributes {B = List ℕ})
fields_of kinds.ObjectPointer = fields object_pointer
fields_of kinds.Macro = fields (macro_object {B = List ℕ})

-- the attribute name of each field, None for a field that is no attribute
abbrev pub names_of : Kind → List (Option names.Field)
names_of kinds.WorkingSet = names_in working_set
names_of kinds.DataMask = names_in data_mask
names_of kinds.AlarmMask = names_in alarm_mask
names_of kinds.Container = names_in container
names_of kinds.SoftKeyMask = names_in soft_key_mask
names_of kinds.Key = names_in key
names_of kinds.Button = names_in button
names_of kinds.InputBoolean = names_in input_boolean
names_of kinds.InputString = names_in (input_string {B = List ℕ})
names_of kinds.InputNumber = names_in input_number
names_of kinds.InputList = names_in input_list
names_of kinds.OutputString = names_in (output_string {B = List ℕ})
names_of kinds.OutputNumber = names_in output_number
names_of kinds.Line = names_in line
names_of kinds.Rectangle = names_in rectangle
names_of kinds.Ellipse = names_in ellipse
names_of kinds.Polygon = names_in polygon
names_of kinds.Meter = names_in meter
names_of kinds.LinearBar = names_in linear_bar
names_of kinds.ArchedBar = names_in arched_bar
names_of kinds.Picture = names_in (picture {B = List ℕ})
names_of kinds.NumberVariable = names_in number_variable
names_of kinds.StringVariable = names_in (string_variable {B = List ℕ})
names_of kinds.Font = names_in font
names_of kinds.LineAttributes = names_in line_attributes
names_of kinds.FillAttributes = names_in fill_attributes
names_of kinds.InputAttributes = names_in (input_attributes {B = List ℕ})
names_of kinds.ObjectPointer = names_in object_pointer
names_of kinds.Macro = names_in (macro_object {B = List ℕ})

abbrev pub values_of : {B : Type 0} → Object B → List Value
values_of (objects.WorkingSet o) = values working_set o
values_of (objects.DataMask o) = values data_mask o
values_of (objects.AlarmMask o) = values alarm_mask o
values_of (objects.Container o) = values container o
values_of (objects.SoftKeyMask o) = values soft_key_mask o
values_of (objects.Key o) = values key o
values_of (objects.Button o) = values button o
values_of (objects.InputBoolean o) = values input_boolean o
values_of (objects.InputString o) = values input_string o
values_of (objects.InputNumber o) = values input_number o
values_of (objects.InputList o) = values input_list o
values_of (objects.OutputString o) = values output_string o
values_of (objects.OutputNumber o) = values output_number o
values_of (objects.Line o) = values line o
values_of (objects.Rectangle o) = values rectangle o
values_of (objects.Ellipse o) = values ellipse o
values_of (objects.Polygon o) = values polygon o
values_of (objects.Meter o) = values meter o
values_of (objects.LinearBar o) = values linear_bar o
values_of (objects.ArchedBar o) = values arched_bar o
values_of (objects.Picture o) = values picture o
values_of (objects.NumberVariable o) = values number_variable o
values_of (objects.StringVariable o) = values string_variable o
values_of (objects.Font o) = values font o
values_of (objects.LineAttributes o) = values line_attributes o
values_of (objects.FillAttributes o) = values fill_attributes o
values_of (objects.InputAttributes o) = values input_attributes o
values_of (objects.ObjectPointer o) = values object_pointer o
values_of (objects.Macro o) = values macro_object o

-- The record of an object under an ID.
abbrev pub record_of : {B : Type 0} → ℕ → Object B → List ℕ
record_of id o = little_bytes 2 id ++ kind_number (kind_of o) ∷ fields_spelling (fields_of (kind_of o)) (values_of o)

-- An object has a record under an ID: the ID is not NULL, numbers fit their fields, lists fit their counts,
-- scales are valid, and decimals are at most 7.
pub record HasRecord (id : ℕ) (o : Seen) : Type 0 where
  pub named : id < null_id
  pub fields_fit : FieldsFit (fields_of (kind_of o)) no_counts (values_of o)
  pub proper : Proper (fields_of (kind_of o)) (values_of o)
