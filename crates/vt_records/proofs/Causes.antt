-- An `Err` of `record_at` means that no record begins at the bytes, for the cause that it gives.
use Rattle.std.proofs.Common.{◌≡◌, ◌≢◌, ℕ, ◌<◌, Bool, true, false, cond, eqb, leb, ◌&&◌, List, [], ◌∷◌, ◌++◌, length, drop, Option, Some, None, Result, Ok, Err, refl, sym, ap, subst, ◌∙◌, arith, inl, inr}
use Rattle.std.proofs.lemmas.Bool.{eqb-true, eqb-false, leb-true, leb-false}
use Rattle.byteorder.specs.Endian.{little_number, little_bytes}
use Rattle.byteorder.specs.Numbers.{little_number-reads_back}
use Rattle.vt_kinds.specs.declared.kind.Kind.{Kind}
use Rattle.vt_kinds.specs.Ids.{null_id}
use Rattle.vt_kinds.specs.Layout.{Value, no_counts}
use Rattle.vt_kinds.specs.Kinds.{kind_of_type}
use Rattle.vt_kinds.specs.Records.{Seen, fields_of, kind_of, values_of, record_of}
use Rattle.vt_records.specs.declared.record_fault.RecordFault.{RecordFault}
use Rattle.vt_records.specs.declared.record_fault.RecordFault.TheVariants as stops
use Rattle.vt_records.specs.Heads.{ReadRecord, other_type, fitting, fields_at, record_at}
use Rattle.vt_records.specs.TableReads.{values_at}
use Rattle.vt_records.specs.Faults.{NoRecordBegins, HasNullId, HasOtherType, IsTruncated, HasValues, id_at, type_at}
use Rattle.vt_records.specs.RecordFaults.{IsStop}
use Rattle.vt_records.proofs.Numbers.{IsBytes, IsBytes-rest}
use Rattle.vt_records.proofs.Tables.{values_take, values_again}
use Rattle.vt_records.proofs.Misfits.{IsMisfit, misfit_is, fitting_err}
use Rattle.vt_records.proofs.RecordHeads.{kind_of_type-kind_number, of_values, of_kind, record_at-short, record_at-long}
use Rattle.vt_records.proofs.ReadInvertsWrite.{record_again}

-- an error of `record_at` means that no record begins there
none_begins : (all : List ℕ) (stop : RecordFault) → record_at all ≡ Err stop → NoRecordBegins all
none_begins all stop e id o tail has parts =
    let no = sym e ∙ ap record_at parts ∙ record_again id o tail has in absurd cc

stop_is : (s t : RecordFault) → ◌≡◌ {A = Result ReadRecord RecordFault} (Err s) (Err t) → s ≡ t
stop_is s t e = cc

some_kind : (k q : Kind) → ◌≡◌ {A = Option Kind} (Some k) (Some q) → k ≡ q
some_kind k q e = cc

values_err : (s t : RecordFault) → ◌≡◌ {A = Result (List Value × List ℕ) RecordFault} (Err s) (Err t) → s ≡ t
values_err s t e = cc

-- ---- the first cause of an error

module _ (a b c : ℕ) (rest : List ℕ) where
  abbrev all : List ℕ
  all = a ∷ b ∷ c ∷ rest

  abbrev id : ℕ
  id = little_number 2 (a ∷ b ∷ [])

  read_values : (kind : Kind) (x : List Value × List ℕ) → IsBytes rest → kind_of_type c ≡ Some kind → values_at (fields_of kind) no_counts rest ≡ Some x → HasValues all kind x.0
  read_values kind x fits known e =
      let took = values_take (fields_of kind) no_counts rest x fits e in
      record { known = known; fields_fit = took.1; tail = x.1; parts = took.0.parts }

  no_values : (kind : Kind) → kind_of_type c ≡ Some kind → values_at (fields_of kind) no_counts rest ≡ None → (k : Kind) (vs : List Value) → HasValues all k vs → ⊥
  no_values kind known none k vs has =
      let same : k ≡ kind = some_kind k kind (sym has.known ∙ known) in
      let read : values_at (fields_of k) no_counts rest ≡ Some (vs, has.tail) = ap (values_at (fields_of k) no_counts) has.parts ∙ values_again (fields_of k) no_counts vs has.tail has.fields_fit in
      let no = sym (subst (λ (q : Kind). values_at (fields_of q) no_counts rest ≡ Some (vs, has.tail)) same read) ∙ none in
      absurd cc

  improper_stop : (kind : Kind) (x : List Value × List ℕ) (stop : RecordFault) → id ≢ null_id → HasValues all kind x.0 → NoRecordBegins all → IsMisfit 3 (fields_of kind) x.0 stop → IsStop all stop
  improper_stop kind x (stops.Scale place) named has none is =
      record { head = omega arith; named = named; kind = kind; values = x.0; read = has; later = is.0; place = is.1; first = is.2; no_record = none }
  improper_stop kind x (stops.Decimals place) named has none is =
      record { head = omega arith; named = named; kind = kind; values = x.0; read = has; later = is.0; place = is.1; first = is.2; no_record = none }
  improper_stop kind x stops.Truncated named has none is = absurd is
  improper_stop kind x stops.UnknownType named has none is = absurd is
  improper_stop kind x stops.LeftOutType named has none is = absurd is
  improper_stop kind x stops.OutOfMemory named has none is = absurd is
  improper_stop kind x stops.NullId named has none is = absurd is

  err_is : (kind : Kind) (vs : Result (List Value × List ℕ) RecordFault) (stop : RecordFault) → of_values id kind vs ≡ Err stop → vs ≡ Err stop
  err_is kind (Ok x) stop e = absurd cc
  err_is kind (Err s) stop e = ap (λ (t : RecordFault). Err t) (stop_is s stop e)

  values_stop : (kind : Kind) (vs : Option (List Value × List ℕ)) (stop : RecordFault) → IsBytes rest → values_at (fields_of kind) no_counts rest ≡ vs → id ≢ null_id → kind_of_type c ≡ Some kind → NoRecordBegins all
      → fitting (fields_of kind) vs ≡ Err stop → IsStop all stop
  values_stop kind None stop fits is named known none e =
      subst (IsStop all) (values_err stops.Truncated stop e)
      (inr (record { head = omega arith; named = named; known = λ no. absurd (let both = sym known ∙ no in cc); cut = no_values kind known is }))
  values_stop kind (Some x) stop fits is named known none e =
      let has = read_values kind x fits known is in
      improper_stop kind x stop named has none (misfit_is 3 (fields_of kind) no_counts x.0 stop has.fields_fit (fitting_err (fields_of kind) x stop e))

  type_stop : (low high : Bool) → leb 29 c ≡ low → leb c 33 ≡ high → HasOtherType all → IsStop all (cond (low && high) stops.LeftOutType stops.UnknownType)
  type_stop true true l h other = (other, (leb-true _ _ l, leb-true _ _ h))
  type_stop true false l h other = (other, λ is. let above = leb-false _ _ h in absurd (omega (arith, is.1)))
  type_stop false high l h other = (other, λ is. let below = leb-false _ _ l in absurd (omega (arith, is.0)))

  kind_stop : (kind : Option Kind) (stop : RecordFault) → IsBytes rest → kind_of_type c ≡ kind → id ≢ null_id → NoRecordBegins all → of_kind id c rest kind ≡ Err stop → IsStop all stop
  kind_stop None stop fits is named none e =
      subst (IsStop all) (stop_is (other_type c) stop e) (type_stop (leb 29 c) (leb c 33) refl refl (record { head = omega arith; named = named; no_kind = is }))
  kind_stop (Some k) stop fits is named none e =
      values_stop k (values_at (fields_of k) no_counts rest) stop fits refl named is none (err_is k (fields_at (fields_of k) rest) stop e)

  id_stop : (null : Bool) (stop : RecordFault) → IsBytes rest → eqb id null_id ≡ null → NoRecordBegins all → cond null (Err stops.NullId) (of_kind id c rest (kind_of_type c)) ≡ Err stop → IsStop all stop
  id_stop true stop fits is none e = subst (IsStop all) (stop_is stops.NullId stop e) (record { head = omega arith; null = eqb-true id null_id is })
  id_stop false stop fits is none e = kind_stop (kind_of_type c) stop fits refl (eqb-false id null_id is) none e

short_stop : (all : List ℕ) (stop : RecordFault) → length all < 3 → record_at all ≡ Err stop → IsStop all stop
short_stop all stop lt e = subst (IsStop all) (stop_is stops.Truncated stop (sym (record_at-short all lt) ∙ e)) (inl lt)

pub record_stops : (all : List ℕ) (stop : RecordFault) → IsBytes all → record_at all ≡ Err stop → IsStop all stop
record_stops [] stop fits e = short_stop [] stop (omega arith) e
record_stops (a ∷ []) stop fits e = short_stop (a ∷ []) stop (omega arith) e
record_stops (a ∷ b ∷ []) stop fits e = short_stop (a ∷ b ∷ []) stop (omega arith) e
record_stops (a ∷ b ∷ c ∷ rest) stop fits e =
    let rest_fits : IsBytes rest = IsBytes-rest c rest (IsBytes-rest b (c ∷ rest) (IsBytes-rest a (b ∷ c ∷ rest) fits)) in
    id_stop a b c rest (eqb (little_number 2 (a ∷ b ∷ [])) null_id) stop rest_fits refl (none_begins (a ∷ b ∷ c ∷ rest) stop e) (sym (record_at-long a b c rest) ∙ e)

-- ---- each cause excludes a record

pub kind_there : (rest : List ℕ) (id : ℕ) (o : Seen) (tail : List ℕ) → rest ≡ record_of id o ++ tail → kind_of_type (type_at rest) ≡ Some (kind_of o)
kind_there rest id o tail parts = ap (λ (r : List ℕ). kind_of_type (type_at r)) parts ∙ kind_of_type-kind_number (kind_of o)

pub truncated_none : (rest : List ℕ) → IsTruncated rest → NoRecordBegins rest
truncated_none rest (inl lt) id o tail has parts = let len = ap length parts in absurd (omega arith)
truncated_none rest (inr cut) id o tail has parts =
    absurd (cut.cut (kind_of o) (values_of o) (record { known = kind_there rest id o tail parts; fields_fit = has.fields_fit; tail = tail; parts = ap (λ (r : List ℕ). drop 3 r) parts }))

pub null_none : (rest : List ℕ) → HasNullId rest → NoRecordBegins rest
null_none rest null id o tail has parts =
    let back : little_number 2 (little_bytes 2 id) ≡ id = (let named = has.named in little_number-reads_back 2 id [] (omega arith)) in
    let same : id_at rest ≡ id = ap id_at parts ∙ back in
    let named = has.named in
    absurd (omega (arith, null.null))

pub other_none : (rest : List ℕ) → HasOtherType rest → NoRecordBegins rest
other_none rest other id o tail has parts =
    let no = sym (kind_there rest id o tail parts) ∙ other.no_kind in absurd cc
