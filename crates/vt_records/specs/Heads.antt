-- Reading the record at the front of bytes: its parts, or its first fault.
use Rattle.std.specs.Prelude.{◌≡◌, ℕ, ◌+◌, List, ◌∷◌, length, nat_le, nat_lt, ◌==◌, ◌&&◌, if◌then◌else◌, Option, Some, None, Result, Ok, Err}
use Rattle.vt_kinds.specs.declared.kind.Kind.{Kind}
use Rattle.vt_kinds.specs.declared.scale.Scale.{Scale}
use Rattle.vt_kinds.specs.Ids.{null_id}
use Rattle.vt_kinds.specs.Scales.{scale_at}
use Rattle.vt_kinds.specs.Layout.{Unsigned, Signed, natural, bytes_in, RecordField, Number, Count, ScaleBytes, DecimalPlaces, Value, number, field_spelling, no_counts}
use Rattle.vt_kinds.specs.Kinds.{kind_of_type}
use Rattle.vt_kinds.specs.Records.{fields_of}
use Rattle.vt_records.specs.declared.record_fault.RecordFault.{RecordFault}
use Rattle.vt_records.specs.declared.record_fault.RecordFault.TheVariants as stops
use Rattle.vt_records.specs.TableReads.{number_at, values_at}

-- a record's ID, kind and values, and the remaining bytes
pub record ReadRecord : Type 0 where
  pub id : ℕ
  pub kind : Kind
  pub values : List Value
  pub rest : List ℕ

-- A function's result, under `view`, equals the read result, unless memory ran out.
abbrev pub Reads : {X Y : Type 0} → (X → Y) → Result X RecordFault → Result Y RecordFault → Type 0
Reads view (Ok x) read = read ≡ Ok (view x)
Reads view (Err stops.OutOfMemory) read = Unit {0}
Reads view (Err stop) read = read ≡ Err stop

abbrev pub or_stop : {A : Type 0} → RecordFault → Option A → Result A RecordFault
or_stop stop None = Err stop
or_stop stop (Some x) = Ok x

infixl 10 ◌>>=◌
abbrev pub ◌>>=◌ : {A B : Type 0} → Result A RecordFault → (A → Result B RecordFault) → Result B RecordFault
(Ok x) >>= f = f x
(Err e) >>= f = Err e

-- the stop of a type without a kind: 29 to 33 are auxiliary functions and inputs
abbrev pub other_type : ℕ → RecordFault
other_type n = if nat_le 29 n && nat_le n 33 then stops.LeftOutType else stops.UnknownType

-- the number of bytes of a value in its field
abbrev pub value_size : RecordField → Value → ℕ
value_size (Number (Unsigned size)) v = size
value_size (Number (Signed width)) v = bytes_in width
value_size (Count size of) v = size
value_size ScaleBytes v = 4
value_size DecimalPlaces v = 1
value_size f v = length (field_spelling f v)

abbrev pub if_none : Option Scale → RecordFault → Option RecordFault → Option RecordFault
if_none None stop next = Some stop
if_none (Some s) stop next = next

-- the first field, at offset `at` or later, with an unknown scale or too many decimals
abbrev pub misfit : ℕ → List RecordField → List Value → Option RecordFault
misfit at (ScaleBytes ∷ fs) (number (natural n) ∷ vs) = if_none (scale_at n) (stops.Scale at) (misfit (at + 4) fs vs)
misfit at (DecimalPlaces ∷ fs) (number (natural n) ∷ vs) = if nat_lt 7 n then Some (stops.Decimals at) else misfit (at + 1) fs vs
misfit at (f ∷ fs) (v ∷ vs) = misfit (at + value_size f v) fs vs
misfit at fs vs = None

abbrev pub or_misfit : List Value × List ℕ → Option RecordFault → Result (List Value × List ℕ) RecordFault
or_misfit read None = Ok read
or_misfit read (Some stop) = Err stop

-- the values and remaining bytes, or their first misfit
abbrev pub fitting : List RecordField → Option (List Value × List ℕ) → Result (List Value × List ℕ) RecordFault
fitting fs None = Err stops.Truncated
fitting fs (Some read) = or_misfit read (misfit 3 fs read.0)

-- reads the fields after the three bytes of ID and type
abbrev pub fields_at : List RecordField → List ℕ → Result (List Value × List ℕ) RecordFault
fields_at fs all = fitting fs (values_at fs no_counts all)

unfoldable pub record_at : List ℕ → Result ReadRecord RecordFault
record_at all = do
  id ← or_stop stops.Truncated (number_at 2 all)
  type ← or_stop stops.Truncated (number_at 1 id.1)
  if id.0 == null_id then Err stops.NullId else do
    kind ← or_stop (other_type type.0) (kind_of_type type.0)
    vs ← fields_at (fields_of kind) type.1
    Ok (record { id = id.0; kind = kind; values = vs.0; rest = vs.1 })
