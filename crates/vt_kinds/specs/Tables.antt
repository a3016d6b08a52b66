-- The layout of each kind's record after its ID and type, as one table of fields (ISO 11783-6; docs/PROFILE.md,
-- "Records" and the section of each kind).
use Rattle.std.specs.Prelude.{ℕ, List, [], ◌∷◌, None}
use Rattle.std.specs.Int.{w16}
use Rattle.vt_kinds.specs.declared.scale.Scale.{Scale}
use Rattle.vt_kinds.specs.declared.entries.Child.{Child}
use Rattle.vt_kinds.specs.declared.entries.MacroEntry.{MacroEntry}
use Rattle.vt_kinds.specs.declared.entries.Language.{Language}
use Rattle.vt_kinds.specs.declared.entries.Point.{Point}
use Rattle.vt_kinds.specs.declared.masks.WorkingSet.{WorkingSet}
use Rattle.vt_kinds.specs.declared.masks.DataMask.{DataMask}
use Rattle.vt_kinds.specs.declared.masks.AlarmMask.{AlarmMask}
use Rattle.vt_kinds.specs.declared.masks.Container.{Container}
use Rattle.vt_kinds.specs.declared.keys.SoftKeyMask.{SoftKeyMask}
use Rattle.vt_kinds.specs.declared.keys.Key.{Key}
use Rattle.vt_kinds.specs.declared.keys.Button.{Button}
use Rattle.vt_kinds.specs.declared.input_fields.InputBoolean.{InputBoolean}
use Rattle.vt_kinds.specs.declared.input_fields.InputString.{InputString}
use Rattle.vt_kinds.specs.declared.input_fields.InputNumber.{InputNumber}
use Rattle.vt_kinds.specs.declared.input_fields.InputList.{InputList}
use Rattle.vt_kinds.specs.declared.output_fields.OutputString.{OutputString}
use Rattle.vt_kinds.specs.declared.output_fields.OutputNumber.{OutputNumber}
use Rattle.vt_kinds.specs.declared.shapes.Line.{Line}
use Rattle.vt_kinds.specs.declared.shapes.Rectangle.{Rectangle}
use Rattle.vt_kinds.specs.declared.shapes.Ellipse.{Ellipse}
use Rattle.vt_kinds.specs.declared.shapes.Polygon.{Polygon}
use Rattle.vt_kinds.specs.declared.graphs.Meter.{Meter}
use Rattle.vt_kinds.specs.declared.graphs.LinearBar.{LinearBar}
use Rattle.vt_kinds.specs.declared.graphs.ArchedBar.{ArchedBar}
use Rattle.vt_kinds.specs.declared.pictures.Picture.{Picture}
use Rattle.vt_kinds.specs.declared.variables.NumberVariable.{NumberVariable}
use Rattle.vt_kinds.specs.declared.variables.StringVariable.{StringVariable}
use Rattle.vt_kinds.specs.declared.attribute_objects.Font.{Font}
use Rattle.vt_kinds.specs.declared.attribute_objects.LineAttributes.{LineAttributes}
use Rattle.vt_kinds.specs.declared.attribute_objects.FillAttributes.{FillAttributes}
use Rattle.vt_kinds.specs.declared.attribute_objects.InputAttributes.{InputAttributes}
use Rattle.vt_kinds.specs.declared.variables.ObjectPointer.{ObjectPointer}
use Rattle.vt_kinds.specs.declared.macros.Macro.{Macro}
use Rattle.vt_kinds.specs.declared.fields.Field.TheVariants as names
use Rattle.vt_kinds.specs.Layout.{attribute, Size, Unsigned, Signed, Numeral, natural, integer, number, ScaleBytes, DecimalPlaces, TableField, Table, byte, word, long, signed_long, count, rows_of, bytes_of, Objects, Macros, Others}
use Rattle.vt_kinds.specs.Scales.{scale_number}

-- ---- the entries of lists

abbrev pub child_sizes : List Size
child_sizes = Unsigned 2 ∷ Signed w16 ∷ Signed w16 ∷ []

abbrev pub child_numbers : Child → List Numeral
child_numbers c = natural c.id ∷ integer c.x ∷ integer c.y ∷ []

abbrev pub macro_sizes : List Size
macro_sizes = Unsigned 1 ∷ Unsigned 1 ∷ []

abbrev pub macro_numbers : MacroEntry → List Numeral
macro_numbers m = natural m.event ∷ natural m.macro_id ∷ []

abbrev pub language_sizes : List Size
language_sizes = Unsigned 1 ∷ Unsigned 1 ∷ []

abbrev pub language_numbers : Language → List Numeral
language_numbers l = natural l.first ∷ natural l.second ∷ []

abbrev pub id_sizes : List Size
id_sizes = Unsigned 2 ∷ []

abbrev pub id_numbers : ℕ → List Numeral
id_numbers id = natural id ∷ []

abbrev pub point_sizes : List Size
point_sizes = Unsigned 2 ∷ Unsigned 2 ∷ []

abbrev pub point_numbers : Point → List Numeral
point_numbers p = natural p.x ∷ natural p.y ∷ []

-- ---- the fields of a table

abbrev pub children : {A : Type 0} → (A → List Child) → TableField A
children f = rows_of Objects child_sizes child_numbers f

abbrev pub macros : {A : Type 0} → (A → List MacroEntry) → TableField A
macros f = rows_of Macros macro_sizes macro_numbers f

abbrev pub languages : {A : Type 0} → (A → List Language) → TableField A
languages f = rows_of Others language_sizes language_numbers f

abbrev pub keys : {A : Type 0} → (A → List ℕ) → TableField A
keys f = rows_of Objects id_sizes id_numbers f

abbrev pub items : {A : Type 0} → (A → List ℕ) → TableField A
items f = rows_of Others id_sizes id_numbers f

abbrev pub points : {A : Type 0} → (A → List Point) → TableField A
points f = rows_of Others point_sizes point_numbers f

-- the byte fields of texts, pictures and macros
abbrev pub content : {A : Type 0} → (A → List ℕ) → TableField A
content f = bytes_of Others f

abbrev pub scale : {A : Type 0} → (A → Scale) → TableField A
scale f = record { field = ScaleBytes; name = None; value = λ x. number (natural (scale_number (f x))) }

abbrev pub decimals : {A : Type 0} → (A → ℕ) → TableField A
decimals f = record { field = DecimalPlaces; name = None; value = λ x. number (natural (f x)) }

-- ---- one table for each kind

abbrev pub working_set : Table WorkingSet
working_set =
    attribute names.Colour (byte (λ o. o.colour)) ∷ attribute names.Selectable (byte (λ o. o.selectable))
    ∷ word (λ o. o.active_mask) ∷ count 1 Objects (λ o. o.children) ∷ count 1 Macros (λ o. o.macros)
    ∷ count 1 Others (λ o. o.languages) ∷ children (λ o. o.children) ∷ macros (λ o. o.macros)
    ∷ languages (λ o. o.languages) ∷ []

abbrev pub data_mask : Table DataMask
data_mask =
    attribute names.Colour (byte (λ o. o.colour)) ∷ attribute names.SoftKeyMask (word (λ o. o.soft_key_mask))
    ∷ count 1 Objects (λ o. o.children) ∷ count 1 Macros (λ o. o.macros) ∷ children (λ o. o.children)
    ∷ macros (λ o. o.macros) ∷ []

abbrev pub alarm_mask : Table AlarmMask
alarm_mask =
    attribute names.Colour (byte (λ o. o.colour)) ∷ attribute names.SoftKeyMask (word (λ o. o.soft_key_mask))
    ∷ attribute names.Priority (byte (λ o. o.priority)) ∷ attribute names.Acoustic (byte (λ o. o.acoustic))
    ∷ count 1 Objects (λ o. o.children) ∷ count 1 Macros (λ o. o.macros) ∷ children (λ o. o.children)
    ∷ macros (λ o. o.macros) ∷ []

abbrev pub container : Table Container
container =
    attribute names.Width (word (λ o. o.width)) ∷ attribute names.Height (word (λ o. o.height))
    ∷ byte (λ o. o.hidden) ∷ count 1 Objects (λ o. o.children) ∷ count 1 Macros (λ o. o.macros)
    ∷ children (λ o. o.children) ∷ macros (λ o. o.macros) ∷ []

abbrev pub soft_key_mask : Table SoftKeyMask
soft_key_mask =
    attribute names.Colour (byte (λ o. o.colour)) ∷ count 1 Objects (λ o. o.keys) ∷ count 1 Macros (λ o. o.macros)
    ∷ keys (λ o. o.keys) ∷ macros (λ o. o.macros) ∷ []

abbrev pub key : Table Key
key =
    attribute names.Colour (byte (λ o. o.colour)) ∷ attribute names.KeyCode (byte (λ o. o.key_code))
    ∷ count 1 Objects (λ o. o.children) ∷ count 1 Macros (λ o. o.macros) ∷ children (λ o. o.children)
    ∷ macros (λ o. o.macros) ∷ []

abbrev pub button : Table Button
button =
    attribute names.Width (word (λ o. o.width)) ∷ attribute names.Height (word (λ o. o.height))
    ∷ attribute names.Colour (byte (λ o. o.colour)) ∷ attribute names.Border (byte (λ o. o.border))
    ∷ attribute names.KeyCode (byte (λ o. o.key_code)) ∷ attribute names.Options (byte (λ o. o.options))
    ∷ count 1 Objects (λ o. o.children) ∷ count 1 Macros (λ o. o.macros) ∷ children (λ o. o.children)
    ∷ macros (λ o. o.macros) ∷ []

abbrev pub input_boolean : Table InputBoolean
input_boolean =
    attribute names.Colour (byte (λ o. o.colour)) ∷ attribute names.Width (word (λ o. o.width))
    ∷ attribute names.Font (word (λ o. o.font)) ∷ attribute names.Variable (word (λ o. o.variable))
    ∷ byte (λ o. o.value) ∷ byte (λ o. o.enabled) ∷ count 1 Macros (λ o. o.macros) ∷ macros (λ o. o.macros) ∷ []

abbrev pub input_string : {B : Type 0} → Table (InputString B)
input_string =
    attribute names.Width (word (λ o. o.width)) ∷ attribute names.Height (word (λ o. o.height))
    ∷ attribute names.Colour (byte (λ o. o.colour)) ∷ attribute names.Font (word (λ o. o.font))
    ∷ attribute names.InputAttributes (word (λ o. o.input_attributes))
    ∷ attribute names.Options (byte (λ o. o.options)) ∷ attribute names.Variable (word (λ o. o.variable))
    ∷ attribute names.Justification (byte (λ o. o.justification)) ∷ count 1 Others (λ o. o.text)
    ∷ content (λ o. o.text) ∷ byte (λ o. o.enabled) ∷ count 1 Macros (λ o. o.macros) ∷ macros (λ o. o.macros) ∷ []

abbrev pub input_number : Table InputNumber
input_number =
    attribute names.Width (word (λ o. o.width)) ∷ attribute names.Height (word (λ o. o.height))
    ∷ attribute names.Colour (byte (λ o. o.colour)) ∷ attribute names.Font (word (λ o. o.font))
    ∷ attribute names.Options (byte (λ o. o.options)) ∷ attribute names.Variable (word (λ o. o.variable))
    ∷ long (λ o. o.value) ∷ attribute names.Min (long (λ o. o.min)) ∷ attribute names.Max (long (λ o. o.max))
    ∷ attribute names.Offset (signed_long (λ o. o.offset)) ∷ attribute names.Scale (scale (λ o. o.scale))
    ∷ attribute names.Decimals (decimals (λ o. o.decimals)) ∷ attribute names.Format (byte (λ o. o.format))
    ∷ attribute names.Justification (byte (λ o. o.justification)) ∷ byte (λ o. o.options_two)
    ∷ count 1 Macros (λ o. o.macros) ∷ macros (λ o. o.macros) ∷ []

abbrev pub input_list : Table InputList
input_list =
    attribute names.Width (word (λ o. o.width)) ∷ attribute names.Height (word (λ o. o.height))
    ∷ attribute names.Variable (word (λ o. o.variable)) ∷ byte (λ o. o.value) ∷ count 1 Others (λ o. o.items)
    ∷ attribute names.Options (byte (λ o. o.options)) ∷ count 1 Macros (λ o. o.macros) ∷ items (λ o. o.items)
    ∷ macros (λ o. o.macros) ∷ []

abbrev pub output_string : {B : Type 0} → Table (OutputString B)
output_string =
    attribute names.Width (word (λ o. o.width)) ∷ attribute names.Height (word (λ o. o.height))
    ∷ attribute names.Colour (byte (λ o. o.colour)) ∷ attribute names.Font (word (λ o. o.font))
    ∷ attribute names.Options (byte (λ o. o.options)) ∷ attribute names.Variable (word (λ o. o.variable))
    ∷ attribute names.Justification (byte (λ o. o.justification)) ∷ count 2 Others (λ o. o.text)
    ∷ content (λ o. o.text) ∷ count 1 Macros (λ o. o.macros) ∷ macros (λ o. o.macros) ∷ []

abbrev pub output_number : Table OutputNumber
output_number =
    attribute names.Width (word (λ o. o.width)) ∷ attribute names.Height (word (λ o. o.height))
    ∷ attribute names.Colour (byte (λ o. o.colour)) ∷ attribute names.Font (word (λ o. o.font))
    ∷ attribute names.Options (byte (λ o. o.options)) ∷ attribute names.Variable (word (λ o. o.variable))
    ∷ long (λ o. o.value) ∷ attribute names.Offset (signed_long (λ o. o.offset))
    ∷ attribute names.Scale (scale (λ o. o.scale)) ∷ attribute names.Decimals (decimals (λ o. o.decimals))
    ∷ attribute names.Format (byte (λ o. o.format)) ∷ attribute names.Justification (byte (λ o. o.justification))
    ∷ count 1 Macros (λ o. o.macros) ∷ macros (λ o. o.macros) ∷ []

abbrev pub line : Table Line
line =
    attribute names.LineAttributes (word (λ o. o.line_attributes)) ∷ attribute names.Width (word (λ o. o.width))
    ∷ attribute names.Height (word (λ o. o.height)) ∷ attribute names.Direction (byte (λ o. o.direction))
    ∷ count 1 Macros (λ o. o.macros) ∷ macros (λ o. o.macros) ∷ []

abbrev pub rectangle : Table Rectangle
rectangle =
    attribute names.LineAttributes (word (λ o. o.line_attributes)) ∷ attribute names.Width (word (λ o. o.width))
    ∷ attribute names.Height (word (λ o. o.height)) ∷ attribute names.Suppression (byte (λ o. o.suppression))
    ∷ attribute names.Fill (word (λ o. o.fill)) ∷ count 1 Macros (λ o. o.macros) ∷ macros (λ o. o.macros) ∷ []

abbrev pub ellipse : Table Ellipse
ellipse =
    attribute names.LineAttributes (word (λ o. o.line_attributes)) ∷ attribute names.Width (word (λ o. o.width))
    ∷ attribute names.Height (word (λ o. o.height)) ∷ attribute names.Type (byte (λ o. o.ellipse_type))
    ∷ attribute names.Start (byte (λ o. o.start)) ∷ attribute names.End (byte (λ o. o.end))
    ∷ attribute names.Fill (word (λ o. o.fill)) ∷ count 1 Macros (λ o. o.macros) ∷ macros (λ o. o.macros) ∷ []

abbrev pub polygon : Table Polygon
polygon =
    attribute names.Width (word (λ o. o.width)) ∷ attribute names.Height (word (λ o. o.height))
    ∷ attribute names.LineAttributes (word (λ o. o.line_attributes)) ∷ attribute names.Fill (word (λ o. o.fill))
    ∷ attribute names.Type (byte (λ o. o.polygon_type)) ∷ count 1 Others (λ o. o.points)
    ∷ count 1 Macros (λ o. o.macros) ∷ points (λ o. o.points) ∷ macros (λ o. o.macros) ∷ []

abbrev pub meter : Table Meter
meter =
    attribute names.Width (word (λ o. o.width)) ∷ attribute names.NeedleColour (byte (λ o. o.needle_colour))
    ∷ attribute names.BorderColour (byte (λ o. o.border_colour))
    ∷ attribute names.ArcColour (byte (λ o. o.arc_colour)) ∷ attribute names.Options (byte (λ o. o.options))
    ∷ attribute names.Ticks (byte (λ o. o.ticks)) ∷ attribute names.Start (byte (λ o. o.start))
    ∷ attribute names.End (byte (λ o. o.end)) ∷ attribute names.Min (word (λ o. o.min))
    ∷ attribute names.Max (word (λ o. o.max)) ∷ attribute names.Variable (word (λ o. o.variable))
    ∷ word (λ o. o.value) ∷ count 1 Macros (λ o. o.macros) ∷ macros (λ o. o.macros) ∷ []

abbrev pub linear_bar : Table LinearBar
linear_bar =
    attribute names.Width (word (λ o. o.width)) ∷ attribute names.Height (word (λ o. o.height))
    ∷ attribute names.Colour (byte (λ o. o.colour)) ∷ attribute names.TargetColour (byte (λ o. o.target_colour))
    ∷ attribute names.Options (byte (λ o. o.options)) ∷ attribute names.Ticks (byte (λ o. o.ticks))
    ∷ attribute names.Min (word (λ o. o.min)) ∷ attribute names.Max (word (λ o. o.max))
    ∷ attribute names.Variable (word (λ o. o.variable)) ∷ word (λ o. o.value)
    ∷ attribute names.TargetVariable (word (λ o. o.target_variable)) ∷ attribute names.Target (word (λ o. o.target))
    ∷ count 1 Macros (λ o. o.macros) ∷ macros (λ o. o.macros) ∷ []

abbrev pub arched_bar : Table ArchedBar
arched_bar =
    attribute names.Width (word (λ o. o.width)) ∷ attribute names.Height (word (λ o. o.height))
    ∷ attribute names.Colour (byte (λ o. o.colour)) ∷ attribute names.TargetColour (byte (λ o. o.target_colour))
    ∷ attribute names.Options (byte (λ o. o.options)) ∷ attribute names.Start (byte (λ o. o.start))
    ∷ attribute names.End (byte (λ o. o.end)) ∷ attribute names.BarWidth (word (λ o. o.bar_width))
    ∷ attribute names.Min (word (λ o. o.min)) ∷ attribute names.Max (word (λ o. o.max))
    ∷ attribute names.Variable (word (λ o. o.variable)) ∷ word (λ o. o.value)
    ∷ attribute names.TargetVariable (word (λ o. o.target_variable)) ∷ attribute names.Target (word (λ o. o.target))
    ∷ count 1 Macros (λ o. o.macros) ∷ macros (λ o. o.macros) ∷ []

abbrev pub picture : {B : Type 0} → Table (Picture B)
picture =
    attribute names.Width (word (λ o. o.width)) ∷ word (λ o. o.actual_width) ∷ word (λ o. o.actual_height)
    ∷ byte (λ o. o.format) ∷ attribute names.Options (byte (λ o. o.options))
    ∷ attribute names.Transparency (byte (λ o. o.transparency)) ∷ count 4 Others (λ o. o.bytes)
    ∷ count 1 Macros (λ o. o.macros) ∷ content (λ o. o.bytes) ∷ macros (λ o. o.macros) ∷ []

abbrev pub number_variable : Table NumberVariable
number_variable =
    long (λ o. o.value) ∷ []

abbrev pub string_variable : {B : Type 0} → Table (StringVariable B)
string_variable =
    count 2 Others (λ o. o.text) ∷ content (λ o. o.text) ∷ []

abbrev pub font : Table Font
font =
    attribute names.Colour (byte (λ o. o.colour)) ∷ attribute names.Size (byte (λ o. o.size))
    ∷ attribute names.Type (byte (λ o. o.font_type)) ∷ attribute names.Style (byte (λ o. o.style))
    ∷ count 1 Macros (λ o. o.macros) ∷ macros (λ o. o.macros) ∷ []

abbrev pub line_attributes : Table LineAttributes
line_attributes =
    attribute names.Colour (byte (λ o. o.colour)) ∷ attribute names.Width (byte (λ o. o.width))
    ∷ attribute names.LineArt (word (λ o. o.line_art)) ∷ count 1 Macros (λ o. o.macros) ∷ macros (λ o. o.macros) ∷ []

abbrev pub fill_attributes : Table FillAttributes
fill_attributes =
    attribute names.Type (byte (λ o. o.fill_type)) ∷ attribute names.Colour (byte (λ o. o.colour))
    ∷ attribute names.Pattern (word (λ o. o.pattern)) ∷ count 1 Macros (λ o. o.macros) ∷ macros (λ o. o.macros) ∷ []

abbrev pub input_attributes : {B : Type 0} → Table (InputAttributes B)
input_attributes =
    attribute names.ValidationType (byte (λ o. o.validation_type)) ∷ count 1 Others (λ o. o.text)
    ∷ content (λ o. o.text) ∷ count 1 Macros (λ o. o.macros) ∷ macros (λ o. o.macros) ∷ []

abbrev pub object_pointer : Table ObjectPointer
object_pointer =
    attribute names.Value (word (λ o. o.value)) ∷ []

abbrev pub macro_object : {B : Type 0} → Table (Macro B)
macro_object =
    count 2 Others (λ o. o.bytes) ∷ content (λ o. o.bytes) ∷ []
