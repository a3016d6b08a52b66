-- Each attribute of a kind is one field of its record, and that field's name is unique.
use Rattle.std.proofs.Common.{◌≡◌, ℕ, zero, suc, ◌%◌, ◌^◌, Bool, true, false, not, ◌||◌, ◌&&◌, ◌==◌, if◌then◌else◌, eqb, List, ◌∷◌, [], take, slice_get, Option, Some, None, refl, ap, ap₂, arith, subst, ◌∙◌, sym}
use Rattle.std.proofs.lemmas.Option.{same_Some}
use Rattle.std.specs.List.{AllByRecursion}
use Rattle.std.proofs.lemmas.Bool.{or_left, or_right, and_parts, eq-eqb}
use Rattle.std.specs.Int.{w32, cast_signed, cast_unsigned}
use mir.ValLaws.{of_z-to_z}
use Rattle.byteorder.specs.Endian.{little_bytes}
use Rattle.vt_kinds.specs.declared.kind.Kind.{Kind}
use Rattle.vt_kinds.specs.declared.kind.Kind.TheVariants as kinds
use Rattle.vt_kinds.specs.declared.fields.Attribute.{Attribute}
use Rattle.vt_kinds.specs.declared.fields.Field as fields
use Rattle.vt_kinds.specs.declared.fields.Field.TheVariants as names
use Rattle.vt_kinds.specs.declared.fields.ValueType.{ValueType}
use Rattle.vt_kinds.specs.declared.fields.ValueType.TheVariants as types
use Rattle.vt_kinds.specs.Layout.{field_spelling}
use Rattle.vt_kinds.specs.Attributes.{attributes_of, attribute_at, attribute_numbered, byte, width}
use Rattle.vt_kinds.specs.Records.{fields_of, names_of}
use Rattle.vt_objects.specs.AttributeFields.{IsFieldNamed, IsField, field_of, changed_value, AttributesAreFields}

-- ---- each attribute is a field

abbrev Stands : Kind → Attribute → Type 0
Stands kind attribute = (place : ℕ) × IsField kind attribute place

field : (kind : Kind) (attribute : Attribute) (place : ℕ) → IsFieldNamed kind attribute.field place → slice_get (fields_of kind) place ≡ Some (field_of attribute.value_type)
    → Stands kind attribute
field kind attribute place named typed = (place, record { named = named; typed = typed })

each : (kind : Kind) → AllByRecursion (Stands kind) (attributes_of kind)
each kinds.WorkingSet = (field _ _ 0 refl refl, (field _ _ 1 refl refl, tt))
each kinds.DataMask = (field _ _ 0 refl refl, (field _ _ 1 refl refl, tt))
each kinds.AlarmMask = (field _ _ 0 refl refl, (field _ _ 1 refl refl, (field _ _ 2 refl refl, (field _ _ 3 refl refl, tt))))
each kinds.Container = (field _ _ 0 refl refl, (field _ _ 1 refl refl, tt))
each kinds.SoftKeyMask = (field _ _ 0 refl refl, tt)
each kinds.Key = (field _ _ 0 refl refl, (field _ _ 1 refl refl, tt))
each kinds.Button = (field _ _ 0 refl refl, (field _ _ 1 refl refl, (field _ _ 2 refl refl, (field _ _ 3 refl refl, (field _ _ 4 refl refl, (field _ _ 5 refl refl, tt))))))
each kinds.InputBoolean = (field _ _ 0 refl refl, (field _ _ 1 refl refl, (field _ _ 2 refl refl, (field _ _ 3 refl refl, tt))))
each kinds.InputString = (field _ _ 0 refl refl, (field _ _ 1 refl refl, (field _ _ 2 refl refl, (field _ _ 3 refl refl, (field _ _ 4 refl refl, (field _ _ 5 refl refl, (field _ _ 6 refl refl, (field _ _ 7 refl refl, tt))))))))
each kinds.InputNumber = (field _ _ 0 refl refl, (field _ _ 1 refl refl, (field _ _ 2 refl refl, (field _ _ 3 refl refl, (field _ _ 4 refl refl, (field _ _ 5 refl refl, (field _ _ 7 refl refl, (field _ _ 8 refl refl, (field _ _ 9 refl refl, (field _ _ 10 refl refl, (field _ _ 11 refl refl, (field _ _ 12 refl refl, (field _ _ 13 refl refl, tt)))))))))))))
each kinds.InputList = (field _ _ 0 refl refl, (field _ _ 1 refl refl, (field _ _ 2 refl refl, tt)))
each kinds.OutputString = (field _ _ 0 refl refl, (field _ _ 1 refl refl, (field _ _ 2 refl refl, (field _ _ 3 refl refl, (field _ _ 4 refl refl, (field _ _ 5 refl refl, (field _ _ 6 refl refl, tt)))))))
each kinds.OutputNumber = (field _ _ 0 refl refl, (field _ _ 1 refl refl, (field _ _ 2 refl refl, (field _ _ 3 refl refl, (field _ _ 4 refl refl, (field _ _ 5 refl refl, (field _ _ 7 refl refl, (field _ _ 8 refl refl, (field _ _ 9 refl refl, (field _ _ 10 refl refl, (field _ _ 11 refl refl, tt)))))))))))
each kinds.Line = (field _ _ 0 refl refl, (field _ _ 1 refl refl, (field _ _ 2 refl refl, (field _ _ 3 refl refl, tt))))
each kinds.Rectangle = (field _ _ 0 refl refl, (field _ _ 1 refl refl, (field _ _ 2 refl refl, (field _ _ 3 refl refl, (field _ _ 4 refl refl, tt)))))
each kinds.Ellipse = (field _ _ 0 refl refl, (field _ _ 1 refl refl, (field _ _ 2 refl refl, (field _ _ 3 refl refl, (field _ _ 4 refl refl, (field _ _ 5 refl refl, (field _ _ 6 refl refl, tt)))))))
each kinds.Polygon = (field _ _ 0 refl refl, (field _ _ 1 refl refl, (field _ _ 2 refl refl, (field _ _ 3 refl refl, (field _ _ 4 refl refl, tt)))))
each kinds.Meter = (field _ _ 0 refl refl, (field _ _ 1 refl refl, (field _ _ 2 refl refl, (field _ _ 3 refl refl, (field _ _ 4 refl refl, (field _ _ 5 refl refl, (field _ _ 6 refl refl, (field _ _ 7 refl refl, (field _ _ 8 refl refl, (field _ _ 9 refl refl, (field _ _ 10 refl refl, tt)))))))))))
each kinds.LinearBar = (field _ _ 0 refl refl, (field _ _ 1 refl refl, (field _ _ 2 refl refl, (field _ _ 3 refl refl, (field _ _ 4 refl refl, (field _ _ 5 refl refl, (field _ _ 6 refl refl, (field _ _ 7 refl refl, (field _ _ 8 refl refl, (field _ _ 10 refl refl, (field _ _ 11 refl refl, tt)))))))))))
each kinds.ArchedBar = (field _ _ 0 refl refl, (field _ _ 1 refl refl, (field _ _ 2 refl refl, (field _ _ 3 refl refl, (field _ _ 4 refl refl, (field _ _ 5 refl refl, (field _ _ 6 refl refl, (field _ _ 7 refl refl, (field _ _ 8 refl refl, (field _ _ 9 refl refl, (field _ _ 10 refl refl, (field _ _ 12 refl refl, (field _ _ 13 refl refl, tt)))))))))))))
each kinds.Picture = (field _ _ 0 refl refl, (field _ _ 4 refl refl, (field _ _ 5 refl refl, tt)))
each kinds.NumberVariable = tt
each kinds.StringVariable = tt
each kinds.Font = (field _ _ 0 refl refl, (field _ _ 1 refl refl, (field _ _ 2 refl refl, (field _ _ 3 refl refl, tt))))
each kinds.LineAttributes = (field _ _ 0 refl refl, (field _ _ 1 refl refl, (field _ _ 2 refl refl, tt)))
each kinds.FillAttributes = (field _ _ 0 refl refl, (field _ _ 1 refl refl, (field _ _ 2 refl refl, tt)))
each kinds.InputAttributes = (field _ _ 0 refl refl, tt)
each kinds.ObjectPointer = (field _ _ 0 refl refl, tt)
each kinds.Macro = tt

all_at : {A : Type 0} (P : A → Type 0) (xs : List A) → AllByRecursion P xs → (place : ℕ) (x : A) → slice_get xs place ≡ Some x → P x
all_at P [] all place x e = absurd cc
all_at P (y ∷ ys) all zero x e = subst P (same_Some y x e) all.0
all_at P (y ∷ ys) all (suc place) x e = all_at P ys all.1 place x e

by_number : (kind : Kind) (number : ℕ) (attribute : Attribute) → attribute_numbered (attributes_of kind) number ≡ Some attribute → Stands kind attribute
by_number kind zero attribute e = absurd cc
by_number kind (suc index) attribute e = all_at (Stands kind) (attributes_of kind) (each kind) index attribute e

options_of_a_list : Stands kinds.InputList (byte names.Options)
options_of_a_list = field _ _ 5 refl refl

stand_in_list : (number : ℕ) (attribute : Attribute) → attribute_at kinds.InputList number ≡ Some attribute → Stands kinds.InputList attribute
stand_in_list number attribute = elim (number == 5) as (λ (b : Bool). (if b then Some (byte names.Options) else attribute_numbered (attributes_of kinds.InputList) number) ≡ Some attribute → Stands kinds.InputList attribute)
    [ true ↦ (λ e. subst (Stands kinds.InputList) (same_Some (byte names.Options) attribute e) options_of_a_list) | false ↦ (λ e. by_number kinds.InputList number attribute e) ]

stand : (kind : Kind) (number : ℕ) (attribute : Attribute) → attribute_at kind number ≡ Some attribute → Stands kind attribute
stand kinds.WorkingSet number attribute e = by_number kinds.WorkingSet number attribute e
stand kinds.DataMask number attribute e = by_number kinds.DataMask number attribute e
stand kinds.AlarmMask number attribute e = by_number kinds.AlarmMask number attribute e
stand kinds.Container number attribute e = by_number kinds.Container number attribute e
stand kinds.SoftKeyMask number attribute e = by_number kinds.SoftKeyMask number attribute e
stand kinds.Key number attribute e = by_number kinds.Key number attribute e
stand kinds.Button number attribute e = by_number kinds.Button number attribute e
stand kinds.InputBoolean number attribute e = by_number kinds.InputBoolean number attribute e
stand kinds.InputString number attribute e = by_number kinds.InputString number attribute e
stand kinds.InputNumber number attribute e = by_number kinds.InputNumber number attribute e
stand kinds.InputList number attribute e = stand_in_list number attribute e
stand kinds.OutputString number attribute e = by_number kinds.OutputString number attribute e
stand kinds.OutputNumber number attribute e = by_number kinds.OutputNumber number attribute e
stand kinds.Line number attribute e = by_number kinds.Line number attribute e
stand kinds.Rectangle number attribute e = by_number kinds.Rectangle number attribute e
stand kinds.Ellipse number attribute e = by_number kinds.Ellipse number attribute e
stand kinds.Polygon number attribute e = by_number kinds.Polygon number attribute e
stand kinds.Meter number attribute e = by_number kinds.Meter number attribute e
stand kinds.LinearBar number attribute e = by_number kinds.LinearBar number attribute e
stand kinds.ArchedBar number attribute e = by_number kinds.ArchedBar number attribute e
stand kinds.Picture number attribute e = by_number kinds.Picture number attribute e
stand kinds.NumberVariable number attribute e = by_number kinds.NumberVariable number attribute e
stand kinds.StringVariable number attribute e = by_number kinds.StringVariable number attribute e
stand kinds.Font number attribute e = by_number kinds.Font number attribute e
stand kinds.LineAttributes number attribute e = by_number kinds.LineAttributes number attribute e
stand kinds.FillAttributes number attribute e = by_number kinds.FillAttributes number attribute e
stand kinds.InputAttributes number attribute e = by_number kinds.InputAttributes number attribute e
stand kinds.ObjectPointer number attribute e = by_number kinds.ObjectPointer number attribute e
stand kinds.Macro number attribute e = by_number kinds.Macro number attribute e

-- ---- names are unique

abbrev code : fields.Field → ℕ
code names.Colour = 0
code names.Selectable = 1
code names.SoftKeyMask = 2
code names.Priority = 3
code names.Acoustic = 4
code names.Width = 5
code names.Height = 6
code names.Border = 7
code names.KeyCode = 8
code names.Options = 9
code names.Font = 10
code names.Variable = 11
code names.InputAttributes = 12
code names.Justification = 13
code names.Min = 14
code names.Max = 15
code names.Offset = 16
code names.Scale = 17
code names.Decimals = 18
code names.Format = 19
code names.LineAttributes = 20
code names.Direction = 21
code names.Suppression = 22
code names.Fill = 23
code names.Type = 24
code names.Start = 25
code names.End = 26
code names.NeedleColour = 27
code names.BorderColour = 28
code names.ArcColour = 29
code names.Ticks = 30
code names.TargetColour = 31
code names.TargetVariable = 32
code names.Target = 33
code names.BarWidth = 34
code names.Transparency = 35
code names.Size = 36
code names.Style = 37
code names.LineArt = 38
code names.Pattern = 39
code names.ValidationType = 40
code names.Value = 41

abbrev has : fields.Field → List (Option fields.Field) → Bool
has name [] = false
has name (None ∷ others) = has name others
has name (Some other ∷ others) = eqb (code name) (code other) || has name others

abbrev are_distinct : List (Option fields.Field) → Bool
are_distinct [] = true
are_distinct (None ∷ others) = are_distinct others
are_distinct (Some name ∷ others) = not (has name others) && are_distinct others

once_each : (kind : Kind) → are_distinct (names_of kind) ≡ true
once_each kinds.WorkingSet = refl
once_each kinds.DataMask = refl
once_each kinds.AlarmMask = refl
once_each kinds.Container = refl
once_each kinds.SoftKeyMask = refl
once_each kinds.Key = refl
once_each kinds.Button = refl
once_each kinds.InputBoolean = refl
once_each kinds.InputString = refl
once_each kinds.InputNumber = refl
once_each kinds.InputList = refl
once_each kinds.OutputString = refl
once_each kinds.OutputNumber = refl
once_each kinds.Line = refl
once_each kinds.Rectangle = refl
once_each kinds.Ellipse = refl
once_each kinds.Polygon = refl
once_each kinds.Meter = refl
once_each kinds.LinearBar = refl
once_each kinds.ArchedBar = refl
once_each kinds.Picture = refl
once_each kinds.NumberVariable = refl
once_each kinds.StringVariable = refl
once_each kinds.Font = refl
once_each kinds.LineAttributes = refl
once_each kinds.FillAttributes = refl
once_each kinds.InputAttributes = refl
once_each kinds.ObjectPointer = refl
once_each kinds.Macro = refl

found : (list : List (Option fields.Field)) (name : fields.Field) (place : ℕ) → slice_get list place ≡ Some (Some name) → has name list ≡ true
found [] name place e = absurd cc
found (None ∷ others) name zero e = absurd cc
found (None ∷ others) name (suc place) e = found others name place e
found (Some other ∷ others) name zero e = or_left (eqb (code name) (code other)) (has name others) (eq-eqb (code name) (code other) (ap code (sym (same_Some other name (same_Some (Some other) (Some name) e)))))
found (Some other ∷ others) name (suc place) e = or_right (eqb (code name) (code other)) (has name others) (found others name place e)

clash : (b : Bool) → b ≡ true → not b ≡ true → ⊥
clash true e f = absurd cc
clash false e f = absurd cc

-- the first of distinct names does not appear later
alone : (first name : fields.Field) (others : List (Option fields.Field)) (place : ℕ) → (not (has first others) && are_distinct others) ≡ true
    → first ≡ name → slice_get others place ≡ Some (Some name) → ⊥
alone first name others place distinct same e =
    clash (has first others) (found others first place (e ∙ ap (λ (n : fields.Field). Some (Some n)) (sym same))) (and_parts (not (has first others)) (are_distinct others) distinct).0

same_place : (list : List (Option fields.Field)) → are_distinct list ≡ true → (name : fields.Field) (a b : ℕ)
    → slice_get list a ≡ Some (Some name) → slice_get list b ≡ Some (Some name) → a ≡ b
same_place [] distinct name a b e f = absurd cc
same_place (None ∷ others) distinct name zero b e f = absurd cc
same_place (None ∷ others) distinct name (suc a) zero e f = absurd cc
same_place (None ∷ others) distinct name (suc a) (suc b) e f = ap suc (same_place others distinct name a b e f)
same_place (Some first ∷ others) distinct name zero zero e f = refl
same_place (Some first ∷ others) distinct name zero (suc b) e f = absurd (alone first name others b distinct (same_Some first name (same_Some (Some first) (Some name) e)) f)
same_place (Some first ∷ others) distinct name (suc a) zero e f = absurd (alone first name others a distinct (same_Some first name (same_Some (Some first) (Some name) f)) e)
same_place (Some first ∷ others) distinct name (suc a) (suc b) e f =
    ap suc (same_place others (and_parts (not (has first others)) (are_distinct others) distinct).1 name a b e f)

once : (kind : Kind) (name : fields.Field) (place other : ℕ) → IsFieldNamed kind name place → IsFieldNamed kind name other → place ≡ other
once kind name place other e f = same_place (names_of kind) (once_each kind) name place other e f

-- ---- the bytes of a written field

one : (v : ℕ) → little_bytes 1 (v % 256 ^ 1) ≡ take 1 (little_bytes 4 v)
one v = ap (λ (b : ℕ). b ∷ []) (omega arith)

two : (v : ℕ) → little_bytes 2 (v % 256 ^ 2) ≡ take 2 (little_bytes 4 v)
two v = ap₂ (λ (a b : ℕ). a ∷ b ∷ []) (omega arith) (omega arith)

four : (v : ℕ) → little_bytes 4 (v % 256 ^ 4) ≡ little_bytes 4 v
four v = ap₂ (λ (a : ℕ) (t : List ℕ). a ∷ t) (omega arith) (ap₂ (λ (a : ℕ) (t : List ℕ). a ∷ t) (omega arith) (ap₂ (λ (a b : ℕ). a ∷ b ∷ []) (omega arith) (omega arith)))

signed_four : (v : ℕ) → little_bytes 4 (cast_unsigned w32 (cast_signed w32 (v % 256 ^ 4))) ≡ little_bytes 4 v
signed_four v = ap (little_bytes 4) (of_z-to_z w32 (v % 256 ^ 4) (record { fits = omega arith })) ∙ four v

bytes : (sort : ValueType) (v : ℕ) → field_spelling (field_of sort) (changed_value sort v) ≡ take (width sort) (little_bytes 4 v)
bytes types.Byte v = one v
bytes types.Word v = two v
bytes types.Long v = four v
bytes types.SignedLong v = signed_four v
bytes (types.Reference place) v = two v
bytes types.Priority v = one v
bytes types.Scale v = four v
bytes types.Decimals v = one v

pub attributes_are : AttributesAreFields
attributes_are = record { stand = stand; once = once; bytes = bytes }
