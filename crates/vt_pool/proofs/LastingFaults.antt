-- A fault other than Truncated and OutOfMemory lasts: more bytes do not cure it.
use Rattle.std.proofs.Common.{◌≡◌, ℕ, ◌≤◌, List, [], ◌∷◌, ◌++◌, length, drop, Option, Some, refl, sym, ap, subst, ◌∙◌, append_assoc, arith, inl, inr}
use Rattle.std.proofs.lemmas.List.{length-append}
use Rattle.vt_kinds.specs.declared.kind.Kind.{Kind}
use Rattle.vt_kinds.specs.Layout.{RecordField, ScaleBytes, DecimalPlaces, Value, fields_spelling, Proper, no_counts}
use Rattle.vt_kinds.specs.Kinds.{kind_of_type}
use Rattle.vt_kinds.specs.Records.{fields_of, kind_of, values_of}
use Rattle.vt_records.specs.declared.fault.PoolFault.TheVariants as faults
use Rattle.vt_records.specs.TableReads.{values_at}
use Rattle.vt_pool.specs.Pools.{joined, IsFaultAt}
use Rattle.vt_records.specs.Faults.{NoRecordBegins, HasNullId, HasOtherType, HasValues, IsLeftOut, IsFirstImproper, IsImproper, id_at, type_at}
use Rattle.vt_pool.specs.PoolUploads.{FaultsLast}
use Rattle.vt_records.proofs.Tables.{values_again}
use Rattle.vt_records.proofs.Causes.{kind_there}

-- ---- the head of a record with more bytes after it

same_id : (rest more : List ℕ) → 3 ≤ length rest → id_at (rest ++ more) ≡ id_at rest
same_id [] more le = absurd (omega arith)
same_id (a ∷ []) more le = absurd (omega arith)
same_id (a ∷ b ∷ []) more le = absurd (omega arith)
same_id (a ∷ b ∷ c ∷ rest) more le = refl

same_type : (rest more : List ℕ) → 3 ≤ length rest → type_at (rest ++ more) ≡ type_at rest
same_type [] more le = absurd (omega arith)
same_type (a ∷ []) more le = absurd (omega arith)
same_type (a ∷ b ∷ []) more le = absurd (omega arith)
same_type (a ∷ b ∷ c ∷ rest) more le = refl

same_behind : (rest more : List ℕ) → 3 ≤ length rest → drop 3 (rest ++ more) ≡ drop 3 rest ++ more
same_behind [] more le = absurd (omega arith)
same_behind (a ∷ []) more le = absurd (omega arith)
same_behind (a ∷ b ∷ []) more le = absurd (omega arith)
same_behind (a ∷ b ∷ c ∷ rest) more le = refl

longer : (rest more : List ℕ) → 3 ≤ length rest → 3 ≤ length (rest ++ more)
longer rest more le = omega (arith, length-append rest more)

values_more : (rest more : List ℕ) (kind : Kind) (vs : List Value) → 3 ≤ length rest → HasValues rest kind vs → HasValues (rest ++ more) kind vs
values_more rest more kind vs head has =
    record {
      known = ap kind_of_type (same_type rest more head) ∙ has.known;
      fields_fit = has.fields_fit;
      tail = has.tail ++ more;
      parts = same_behind rest more head ∙ ap (λ (l : List ℕ). l ++ more) has.parts ∙ append_assoc (fields_spelling (fields_of kind) vs) has.tail more;
    }

-- ---- no record begins with a value not allowed

not_proper : (sort : RecordField) (later : ℕ) (fs : List RecordField) (vs : List Value) → IsFirstImproper sort later fs vs → Proper fs vs → ⊥
not_proper sort later [] vs first proper = absurd first
not_proper sort later (f ∷ fs) [] first proper = absurd first
not_proper sort later (f ∷ fs) (v ∷ vs) (inl here) proper = here.2 proper.0
not_proper sort later (f ∷ fs) (v ∷ vs) (inr (is, next)) proper = not_proper sort next.0 fs vs next.2 proper.1

same_values : (x y : List Value × List ℕ) → ◌≡◌ {A = Option (List Value × List ℕ)} (Some x) (Some y) → x.0 ≡ y.0
same_values x y e = let same : x ≡ y = cc in ap (λ (z : List Value × List ℕ). z.0) same

same_kind : (k q : Kind) → ◌≡◌ {A = Option Kind} (Some k) (Some q) → k ≡ q
same_kind k q e = cc

improper_none : (sort : RecordField) (later : ℕ) (all : List ℕ) (kind : Kind) (vs : List Value) → HasValues all kind vs → IsFirstImproper sort later (fields_of kind) vs → NoRecordBegins all
improper_none sort later all kind vs has first id o tail is parts =
    let one : kind_of o ≡ kind = same_kind (kind_of o) kind (sym (kind_there all id o tail parts) ∙ has.known) in
    let read : values_at (fields_of kind) no_counts (drop 3 all) ≡ Some (vs, has.tail) =
    ap (values_at (fields_of kind) no_counts) has.parts ∙ values_again (fields_of kind) no_counts vs has.tail has.fields_fit in
    let of_object : values_at (fields_of (kind_of o)) no_counts (drop 3 all) ≡ Some (values_of o, tail) =
    ap (λ (l : List ℕ). values_at (fields_of (kind_of o)) no_counts (drop 3 l)) parts ∙ values_again (fields_of (kind_of o)) no_counts (values_of o) tail is.fields_fit in
    let moved : values_at (fields_of kind) no_counts (drop 3 all) ≡ Some (values_of o, tail) =
    subst (λ (k : Kind). values_at (fields_of k) no_counts (drop 3 all) ≡ Some (values_of o, tail)) one of_object in
    let same : values_of o ≡ vs = same_values (values_of o, tail) (vs, has.tail) (sym moved ∙ read) in
    let proper : Proper (fields_of kind) vs = subst (λ (l : List Value). Proper (fields_of kind) l) same (subst (λ (k : Kind). Proper (fields_of k) (values_of o)) one is.proper) in
    not_proper sort later (fields_of kind) vs first proper

-- ---- lasting faults

null_more : (rest more : List ℕ) → HasNullId rest → HasNullId (rest ++ more)
null_more rest more is = record { head = longer rest more is.head; null = same_id rest more is.head ∙ is.null }

other_more : (rest more : List ℕ) → HasOtherType rest → HasOtherType (rest ++ more)
other_more rest more is =
    record {
      head = longer rest more is.head;
      named = λ e. is.named (sym (same_id rest more is.head) ∙ e);
      no_kind = ap kind_of_type (same_type rest more is.head) ∙ is.no_kind;
    }

improper_more : (sort : RecordField) (rest more : List ℕ) (at : ℕ) → IsImproper sort rest at → IsImproper sort (rest ++ more) at
improper_more sort rest more at is =
    let has = values_more rest more is.kind is.values is.head is.read in
    record {
      head = longer rest more is.head;
      named = λ e. is.named (sym (same_id rest more is.head) ∙ e);
      kind = is.kind;
      values = is.values;
      read = has;
      later = is.later;
      place = is.place;
      first = is.first;
      no_record = improper_none sort is.later (rest ++ more) is.kind is.values has is.first;
    }

fault_more : (bytes more : List ℕ) (at : ℕ) (Faulty : List ℕ → ℕ → Type 0) → ((rest : List ℕ) (offset : ℕ) → Faulty rest offset → Faulty (rest ++ more) offset)
    → IsFaultAt bytes at Faulty → IsFaultAt (bytes ++ more) at Faulty
fault_more bytes more at Faulty lasts is =
    let some = is.some in
    record {
      records = is.records;
      whole = is.whole;
      rest = is.rest ++ more;
      parts = ap (λ (l : List ℕ). l ++ more) is.parts ∙ append_assoc (joined is.records) is.rest more;
      offset = is.offset;
      place = is.place;
      some = omega (arith, length-append is.rest more);
      faulty = lasts is.rest is.offset is.faulty;
    }

type_cases : (rest more : List ℕ) (P : ℕ → Type 0) → 3 ≤ length rest → P (type_at rest) → P (type_at (rest ++ more))
type_cases rest more P head is = subst P (sym (same_type rest more head)) is

pub faults_last : FaultsLast
faults_last bytes more (faults.NullId at) is lasting = fault_more bytes more at _ (λ rest offset f. (f.0, null_more rest more f.1)) is
faults_last bytes more (faults.LeftOutType at) is lasting =
    fault_more bytes more at _ (λ rest offset f. (f.0, (other_more rest more f.1.0, type_cases rest more IsLeftOut f.1.0.head f.1.1))) is
faults_last bytes more (faults.UnknownType at) is lasting =
    fault_more bytes more at _ (λ rest offset f. (f.0, (other_more rest more f.1.0, type_cases rest more (λ n. IsLeftOut n → ⊥) f.1.0.head f.1.1))) is
faults_last bytes more (faults.Scale at) is lasting = fault_more bytes more at (IsImproper ScaleBytes) (λ rest offset f. improper_more ScaleBytes rest more offset f) is
faults_last bytes more (faults.Decimals at) is lasting = fault_more bytes more at (IsImproper DecimalPlaces) (λ rest offset f. improper_more DecimalPlaces rest more offset f) is
faults_last bytes more (faults.Truncated at) is lasting = absurd lasting
faults_last bytes more (faults.OutOfMemory at) is lasting = absurd lasting
