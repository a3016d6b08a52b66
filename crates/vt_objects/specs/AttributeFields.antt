-- The attributes of a kind as fields of its record, and the value that Change Attribute stores in such a field
-- (docs/PROFILE.md, "Attribute numbers").
use Rattle.std.specs.Prelude.{◌≡◌, ℕ, Some, take, slice_get}
use Rattle.std.specs.Int.{w32, cast_signed}
use Rattle.byteorder.specs.Endian.{little_bytes}
use Rattle.vt_kinds.specs.declared.kind.Kind.{Kind}
use Rattle.vt_kinds.specs.declared.fields.Attribute.{Attribute}
use Rattle.vt_kinds.specs.declared.fields.Field as names
use Rattle.vt_kinds.specs.declared.fields.ValueType.{ValueType}
use Rattle.vt_kinds.specs.declared.fields.ValueType.TheVariants as types
use Rattle.vt_kinds.specs.Layout.{RecordField, Number, Unsigned, Signed, ScaleBytes, DecimalPlaces, Value, number, natural, integer, field_spelling}
use Rattle.vt_kinds.specs.Attributes.{attribute_at, width, lowest}
use Rattle.vt_kinds.specs.Records.{fields_of, names_of}

-- the record field for values of a type
abbrev pub field_of : ValueType → RecordField
field_of types.SignedLong = Number (Signed w32)
field_of types.Scale = ScaleBytes
field_of types.Decimals = DecimalPlaces
field_of type = Number (Unsigned (width type))

-- the field's value after the change
abbrev pub changed_value : ValueType → ℕ → Value
changed_value types.SignedLong value = number (integer (cast_signed w32 (lowest types.SignedLong value)))
changed_value type value = number (natural (lowest type value))

-- the field at this index in the record of a kind has this name
abbrev pub IsFieldNamed : Kind → names.Field → ℕ → Type 0
IsFieldNamed kind name place = slice_get (names_of kind) place ≡ Some (Some name)

-- the field at this index has an attribute's name and type
pub record IsField (kind : Kind) (attribute : Attribute) (place : ℕ) : Type 0 where
  pub named : IsFieldNamed kind attribute.field place
  pub typed : slice_get (fields_of kind) place ≡ Some (field_of attribute.value_type)

pub record AttributesAreFields : Type 0 where
  -- Each attribute of a kind is a field of its record, by name and type.
  pub stand : (kind : Kind) (number : ℕ) (attribute : Attribute) → attribute_at kind number ≡ Some attribute → (place : ℕ) × IsField kind attribute place
  -- Names are unique in a record.
  pub once : (kind : Kind) (name : names.Field) (place other : ℕ) → IsFieldNamed kind name place → IsFieldNamed kind name other → place ≡ other
  -- A field stores the lowest bytes of the value, unchanged.
  pub bytes : (type : ValueType) (value : ℕ) → field_spelling (field_of type) (changed_value type value) ≡ take (width type) (little_bytes 4 value)
