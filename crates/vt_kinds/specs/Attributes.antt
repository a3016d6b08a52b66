-- The attributes that Change Attribute writes: their numbers (docs/PROFILE.md, "Attribute numbers"), their value
-- types, and the values that each type accepts ("Values of attributes").
use Rattle.std.specs.Prelude.{◌≡◌, ◌≢◌, ◌≤◌, ◌⊎◌, ℕ, zero, suc, ◌%◌, ◌^◌, List, [], ◌∷◌, ◌==◌, if◌then◌else◌, Option, Some, None, IsTrue, slice_get}
use Rattle.vt_kinds.specs.declared.kind.Kind.{Kind}
use Rattle.vt_kinds.specs.declared.kind.Kind.TheVariants as kinds
use Rattle.vt_kinds.specs.declared.place.Place.TheVariants as places
use Rattle.vt_kinds.specs.declared.place.Place.{Place}
use Rattle.vt_kinds.specs.declared.fields.Attribute.{Attribute}
use Rattle.vt_kinds.specs.declared.fields.Field.{Field}
use Rattle.vt_kinds.specs.declared.fields.Field.TheVariants as fields
use Rattle.vt_kinds.specs.declared.fields.ValueType.{ValueType}
use Rattle.vt_kinds.specs.declared.fields.ValueType.TheVariants as types
use Rattle.vt_kinds.specs.Ids.{null_id}
use Rattle.vt_kinds.specs.References.{allowed, may_be_null, members, is_among}
use Rattle.vt_kinds.specs.Scales.{IsScale}

abbrev pub attribute : Field → ValueType → Attribute
attribute field type = record { field = field; value_type = type }

-- ---- the values of each type

-- the number of bytes of a field of this type
abbrev pub width : ValueType → ℕ
width types.Byte = 1
width types.Word = 2
width types.Long = 4
width types.SignedLong = 4
width (types.Reference place) = 2
width types.Priority = 1
width types.Scale = 4
width types.Decimals = 1

-- the bytes of a value that the field stores: its lowest ones
abbrev pub lowest : ValueType → ℕ → ℕ
lowest sort value = value % 256 ^ width sort

-- the object exists and its kind is in the list
abbrev pub IsAmong : List Kind → Option Kind → Type 0
IsAmong kinds None = ⊥
IsAmong kinds (Some kind) = IsTrue (is_among kinds kind)

-- a reference is allowed in a field of a kind: NULL, where the field allows it, or an object of an allowed kind
abbrev pub MayStand : Kind → Place → ℕ → Option Kind → Type 0
MayStand kind place id referenced =
    ((id ≡ null_id) × IsTrue (may_be_null place)) ⊎ ((id ≢ null_id) × IsAmong (members (allowed kind place)) referenced)

-- A field accepts a value. For a reference, `referenced` is the kind of the referenced object, if it exists. An object
-- pointer's value has to meet more conditions (docs/PROFILE.md, "Values of attributes").
abbrev pub Accepts : Kind → ValueType → ℕ → Option Kind → Type 0
Accepts kind (types.Reference place) n referenced = MayStand kind place n referenced
Accepts kind types.Priority n referenced = n ≤ 2
Accepts kind types.Scale n referenced = IsScale n
Accepts kind types.Decimals n referenced = n ≤ 7
Accepts kind _ n referenced = Unit {0}

-- ---- the attributes of each kind

-- fields of one, two or four bytes and a signed one of four bytes: every value is accepted
abbrev pub byte : Field → Attribute
byte field = attribute field types.Byte

abbrev pub word : Field → Attribute
word field = attribute field types.Word

abbrev pub long : Field → Attribute
long field = attribute field types.Long

abbrev pub signed_long : Field → Attribute
signed_long field = attribute field types.SignedLong

-- a reference field, which accepts the kinds that its `Place` allows
abbrev pub reference : Field → Place → Attribute
reference field place = attribute field (types.Reference place)

abbrev pub soft_key_mask : Attribute
soft_key_mask = reference fields.SoftKeyMask places.SoftKeyMask

abbrev pub font : Attribute
font = reference fields.Font places.Font

abbrev pub input_attributes : Attribute
input_attributes = reference fields.InputAttributes places.InputAttributes

abbrev pub variable : Attribute
variable = reference fields.Variable places.Variable

abbrev pub target_variable : Attribute
target_variable = reference fields.TargetVariable places.TargetVariable

abbrev pub line_attributes : Attribute
line_attributes = reference fields.LineAttributes places.LineAttributes

abbrev pub fill : Attribute
fill = reference fields.Fill places.Fill

-- a priority (0 to 2), a scale (one of four), decimals (0 to 7)
abbrev pub priority : Attribute
priority = attribute fields.Priority types.Priority

abbrev pub scale : Attribute
scale = attribute fields.Scale types.Scale

abbrev pub decimals : Attribute
decimals = attribute fields.Decimals types.Decimals

-- The attributes of a kind, numbered from 1. For an Input List only those before its missing number 4.
abbrev pub attributes_of : Kind → List Attribute
attributes_of kinds.WorkingSet = byte fields.Colour ∷ byte fields.Selectable ∷ []
attributes_of kinds.DataMask = byte fields.Colour ∷ soft_key_mask ∷ []
attributes_of kinds.AlarmMask = byte fields.Colour ∷ soft_key_mask ∷ priority ∷ byte fields.Acoustic ∷ []
attributes_of kinds.Container = word fields.Width ∷ word fields.Height ∷ []
attributes_of kinds.SoftKeyMask = byte fields.Colour ∷ []
attributes_of kinds.Key = byte fields.Colour ∷ byte fields.KeyCode ∷ []
attributes_of kinds.Button =
    word fields.Width ∷ word fields.Height ∷ byte fields.Colour ∷ byte fields.Border ∷ byte fields.KeyCode
    ∷ byte fields.Options ∷ []
attributes_of kinds.InputBoolean = byte fields.Colour ∷ word fields.Width ∷ font ∷ variable ∷ []
attributes_of kinds.InputString =
    word fields.Width ∷ word fields.Height ∷ byte fields.Colour ∷ font ∷ input_attributes ∷ byte fields.Options
    ∷ variable ∷ byte fields.Justification ∷ []
attributes_of kinds.InputNumber =
    word fields.Width ∷ word fields.Height ∷ byte fields.Colour ∷ font ∷ byte fields.Options ∷ variable
    ∷ long fields.Min ∷ long fields.Max ∷ signed_long fields.Offset ∷ scale ∷ decimals ∷ byte fields.Format
    ∷ byte fields.Justification ∷ []
attributes_of kinds.InputList = word fields.Width ∷ word fields.Height ∷ variable ∷ []
attributes_of kinds.OutputString =
    word fields.Width ∷ word fields.Height ∷ byte fields.Colour ∷ font ∷ byte fields.Options ∷ variable
    ∷ byte fields.Justification ∷ []
attributes_of kinds.OutputNumber =
    word fields.Width ∷ word fields.Height ∷ byte fields.Colour ∷ font ∷ byte fields.Options ∷ variable
    ∷ signed_long fields.Offset ∷ scale ∷ decimals ∷ byte fields.Format ∷ byte fields.Justification ∷ []
attributes_of kinds.Line = line_attributes ∷ word fields.Width ∷ word fields.Height ∷ byte fields.Direction ∷ []
attributes_of kinds.Rectangle = line_attributes ∷ word fields.Width ∷ word fields.Height ∷ byte fields.Suppression ∷ fill ∷ []
attributes_of kinds.Ellipse =
    line_attributes ∷ word fields.Width ∷ word fields.Height ∷ byte fields.Type ∷ byte fields.Start ∷ byte fields.End
    ∷ fill ∷ []
attributes_of kinds.Polygon = word fields.Width ∷ word fields.Height ∷ line_attributes ∷ fill ∷ byte fields.Type ∷ []
attributes_of kinds.Meter =
    word fields.Width ∷ byte fields.NeedleColour ∷ byte fields.BorderColour ∷ byte fields.ArcColour
    ∷ byte fields.Options ∷ byte fields.Ticks ∷ byte fields.Start ∷ byte fields.End ∷ word fields.Min
    ∷ word fields.Max ∷ variable ∷ []
attributes_of kinds.LinearBar =
    word fields.Width ∷ word fields.Height ∷ byte fields.Colour ∷ byte fields.TargetColour ∷ byte fields.Options
    ∷ byte fields.Ticks ∷ word fields.Min ∷ word fields.Max ∷ variable ∷ target_variable ∷ word fields.Target ∷ []
attributes_of kinds.ArchedBar =
    word fields.Width ∷ word fields.Height ∷ byte fields.Colour ∷ byte fields.TargetColour ∷ byte fields.Options
    ∷ byte fields.Start ∷ byte fields.End ∷ word fields.BarWidth ∷ word fields.Min ∷ word fields.Max ∷ variable
    ∷ target_variable ∷ word fields.Target ∷ []
attributes_of kinds.Picture = word fields.Width ∷ byte fields.Options ∷ byte fields.Transparency ∷ []
attributes_of kinds.NumberVariable = []
attributes_of kinds.StringVariable = []
attributes_of kinds.Font = byte fields.Colour ∷ byte fields.Size ∷ byte fields.Type ∷ byte fields.Style ∷ []
attributes_of kinds.LineAttributes = byte fields.Colour ∷ byte fields.Width ∷ word fields.LineArt ∷ []
attributes_of kinds.FillAttributes = byte fields.Type ∷ byte fields.Colour ∷ reference fields.Pattern places.Pattern ∷ []
attributes_of kinds.InputAttributes = byte fields.ValidationType ∷ []
attributes_of kinds.ObjectPointer = reference fields.Value places.Value ∷ []
attributes_of kinds.Macro = []

-- the attribute at a number, counted from 1
abbrev pub attribute_numbered : List Attribute → ℕ → Option Attribute
attribute_numbered list zero = None
attribute_numbered list (suc index) = slice_get list index

-- The attribute of a kind at a number. In an Input List, number 5 is the options, and number 4 is missing.
abbrev pub attribute_at : Kind → ℕ → Option Attribute
attribute_at kinds.InputList number = if number == 5 then Some (byte fields.Options) else attribute_numbered (attributes_of kinds.InputList) number
attribute_at kind number = attribute_numbered (attributes_of kind) number
