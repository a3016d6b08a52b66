-- The causes for which bytes begin with no record (docs/PROFILE.md, "Pools and faults").
use Rattle.std.specs.Prelude.{◌≡◌, ◌≢◌, ◌<◌, ◌≤◌, ℕ, ◌+◌, ◌⊎◌, List, ◌∷◌, ◌++◌, length, drop, None, Some, slice_index}
use Rattle.byteorder.specs.Endian.{little_number}
use Rattle.vt_kinds.specs.declared.kind.Kind.{Kind}
use Rattle.vt_kinds.specs.Ids.{null_id}
use Rattle.vt_kinds.specs.Layout.{RecordField, Value, field_spelling, fields_spelling, FieldsFit, IsProper, no_counts}
use Rattle.vt_kinds.specs.Records.{Seen, fields_of, record_of, HasRecord}
use Rattle.vt_kinds.specs.Kinds.{kind_of_type}

-- the ID and the type at the head of a record
abbrev pub id_at : List ℕ → ℕ
id_at rest = little_number 2 rest

abbrev pub type_at : List ℕ → ℕ
type_at rest = slice_index rest 2

-- the types of auxiliary functions and inputs
abbrev pub IsLeftOut : ℕ → Type 0
IsLeftOut n = (29 ≤ n) × (n ≤ 33)

-- no record is a prefix of these bytes
abbrev pub NoRecordBegins : List ℕ → Type 0
NoRecordBegins rest = (id : ℕ) (o : Seen) (tail : List ℕ) → HasRecord id o → rest ≡ record_of id o ++ tail → ⊥

pub record HasNullId (rest : List ℕ) : Type 0 where
  pub head : 3 ≤ length rest
  pub null : id_at rest ≡ null_id

pub record HasOtherType (rest : List ℕ) : Type 0 where
  pub head : 3 ≤ length rest
  pub named : id_at rest ≢ null_id
  pub no_kind : kind_of_type (type_at rest) ≡ None

-- after an ID and a kind's type come values that fit the kind's fields
pub record HasValues (rest : List ℕ) (kind : Kind) (values : List Value) : Type 0 where
  pub known : kind_of_type (type_at rest) ≡ Some kind
  pub fields_fit : FieldsFit (fields_of kind) no_counts values
  pub tail : List ℕ
  pub parts : drop 3 rest ≡ fields_spelling (fields_of kind) values ++ tail

-- the bytes end inside the fields of a known type
pub record EndsInFields (rest : List ℕ) : Type 0 where
  pub head : 3 ≤ length rest
  pub named : id_at rest ≢ null_id
  pub known : kind_of_type (type_at rest) ≢ None
  pub cut : (kind : Kind) (values : List Value) → HasValues rest kind values → ⊥

-- the bytes end inside the ID and the type, or inside the fields
abbrev pub IsTruncated : List ℕ → Type 0
IsTruncated rest = (length rest < 3) ⊎ EndsInFields rest

-- the first value not allowed is in a field of this sort, at this offset from the first field
abbrev pub IsFirstImproper : RecordField → ℕ → List RecordField → List Value → Type 0
IsFirstImproper sort at (f ∷ fs) (v ∷ vs) =
    ((f ≡ sort) × (at ≡ 0) × (IsProper f v → ⊥))
    ⊎ (IsProper f v × ((later : ℕ) × (at ≡ length (field_spelling f v) + later) × IsFirstImproper sort later fs vs))
IsFirstImproper sort at _ _ = ⊥

-- All fields are present, and the first value not allowed is in a field of this sort, at this offset from the
-- record's first byte. No record begins there.
pub record IsImproper (sort : RecordField) (rest : List ℕ) (at : ℕ) : Type 0 where
  pub head : 3 ≤ length rest
  pub named : id_at rest ≢ null_id
  pub kind : Kind
  pub values : List Value
  pub read : HasValues rest kind values
  pub later : ℕ
  pub place : at ≡ 3 + later
  pub first : IsFirstImproper sort later (fields_of kind) values
  pub no_record : NoRecordBegins rest
