-- The values of an object's record as the code lists them, each with the field in which it is.
use Rattle.std.specs.Prelude.{Bool, true, false, ◌≡◌, ◌<◌, ◌≤◌, ℕ, ◌^◌, List, map}
use Rattle.std.specs.Int.{w32}
use Rattle.std.specs.List.{AllByRecursion}
use Rattle.vt_kinds.specs.Layout.{RecordField, Count, Number, Unsigned, Signed, Rows, ScaleBytes, DecimalPlaces, Objects, Macros, Others, natural, integer, number, rows, bytes, Fits, RowFits, field_spelling}
use Rattle.vt_kinds.specs.Layout.{Table, fields}
use Rattle.vt_kinds.specs.Layout as layout
use Rattle.vt_kinds.specs.Records.{Seen, kind_of, fields_of, values_of}
use Rattle.vt_kinds.specs.Scales.{IsScale, scale_number}
use Rattle.vt_kinds.specs.Tables.{child_sizes, child_numbers, macro_sizes, macro_numbers, language_sizes, language_numbers, id_sizes, id_numbers, point_sizes, point_numbers}
use Rattle.vt_writing.specs.declared.value.Value.{Value}
use Rattle.vt_writing.specs.declared.value.Value.TheVariants as values

-- a value in the record
abbrev pub value_of : Value → layout.Value
value_of (values.Byte n) = number (natural n)
value_of (values.Word n) = number (natural n)
value_of (values.Long n) = number (natural n)
value_of (values.SignedLong z) = number (integer z)
value_of (values.Scale s) = number (natural (scale_number s))
value_of (values.Decimals n) = number (natural n)
value_of (values.ObjectCount n) = number (natural n)
value_of (values.MacroCount n) = number (natural n)
value_of (values.Count n) = number (natural n)
value_of (values.LongCount n) = number (natural n)
value_of (values.PictureCount n) = number (natural n)
value_of (values.Children es) = rows (map child_numbers es.now)
value_of (values.Keys es) = rows (map id_numbers es.now)
value_of (values.Items es) = rows (map id_numbers es.now)
value_of (values.Macros es) = rows (map macro_numbers es.now)
value_of (values.Languages es) = rows (map language_numbers es.now)
value_of (values.Points es) = rows (map point_numbers es.now)
value_of (values.Bytes bs) = bytes bs.now

-- the field in which a value is
abbrev pub field_of : Value → RecordField
field_of (values.Byte n) = Number (Unsigned 1)
field_of (values.Word n) = Number (Unsigned 2)
field_of (values.Long n) = Number (Unsigned 4)
field_of (values.SignedLong z) = Number (Signed w32)
field_of (values.Scale s) = ScaleBytes
field_of (values.Decimals n) = DecimalPlaces
field_of (values.ObjectCount n) = Count 1 Objects
field_of (values.MacroCount n) = Count 1 Macros
field_of (values.Count n) = Count 1 Others
field_of (values.LongCount n) = Count 2 Others
field_of (values.PictureCount n) = Count 4 Others
field_of (values.Children es) = Rows Objects child_sizes
field_of (values.Keys es) = Rows Objects id_sizes
field_of (values.Items es) = Rows Others id_sizes
field_of (values.Macros es) = Rows Macros macro_sizes
field_of (values.Languages es) = Rows Others language_sizes
field_of (values.Points es) = Rows Others point_sizes
field_of (values.Bytes bs) = layout.Bytes Others

-- a field is the count of a list
abbrev pub counts : RecordField → Bool
counts (Count size of) = true
counts _ = false

-- a value is the count of a list
abbrev pub is_count : Value → Bool
is_count v = counts (field_of v)

-- the values are those of an object's record, each in its field
abbrev pub AreValuesOf : Seen → List Value → Type 0
AreValuesOf o vs = (map value_of vs ≡ values_of o) × (map field_of vs ≡ fields_of (kind_of o))

-- the values are those of a record with these fields, each in its field
abbrev pub AreValuesIn : {A : Type 0} → Table A → A → List Value → Type 0
AreValuesIn t o vs = (map value_of vs ≡ layout.values t o) × (map field_of vs ≡ fields t)

-- the bytes of a value
abbrev pub spelling : Value → List ℕ
spelling v = field_spelling (field_of v) (value_of v)

-- the value of a field fits it and is allowed in it, whatever the length of a list
abbrev pub FitsField : RecordField → layout.Value → Type 0
FitsField (Number size) (number n) = Fits size n
FitsField (Count size of) (number (natural n)) = n < 256 ^ size
FitsField (Rows of sizes) (rows rs) = AllByRecursion (RowFits sizes) rs
FitsField (layout.Bytes of) (bytes bs) = AllByRecursion (λ b. b < 256) bs
FitsField ScaleBytes (number (natural n)) = (n < 256 ^ 4) × IsScale n
FitsField DecimalPlaces (number (natural n)) = (n < 256 ^ 1) × (n ≤ 7)
FitsField _ _ = ⊥

-- a value fits its field
abbrev pub Fitting : Value → Type 0
Fitting v = FitsField (field_of v) (value_of v)
