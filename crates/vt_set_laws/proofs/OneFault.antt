-- The bytes of a pool have at most one fault, except for want of memory.
use Rattle.std.proofs.Common.{◌≡◌, ℕ, ◌+◌, List, [], ◌∷◌, ◌++◌, length, drop, Some, refl, sym, ap, ap₂, subst, ◌∙◌, append_assoc, arith, inl, inr}
use Rattle.std.proofs.lemmas.List.{length-append}
use Rattle.std.proofs.lemmas.Option.{same_Some}
use Rattle.vt_kinds.specs.declared.kind.Kind.{Kind}
use Rattle.vt_kinds.specs.Layout.{RecordField, Value, ScaleBytes, DecimalPlaces, field_spelling, no_counts}
use Rattle.vt_kinds.specs.Records.{fields_of, record_of}
use Rattle.vt_records.specs.declared.fault.PoolFault.{PoolFault}
use Rattle.vt_records.specs.declared.fault.PoolFault.TheVariants as faults
use Rattle.vt_records.specs.declared.record_fault.RecordFault.{RecordFault}
use Rattle.vt_records.specs.declared.record_fault.RecordFault.TheVariants as stops
use Rattle.vt_records.specs.Faults.{NoRecordBegins, HasNullId, HasOtherType, HasValues, IsTruncated, IsImproper, IsFirstImproper}
use Rattle.vt_records.specs.TableReads.{values_at}
use Rattle.vt_records.specs.RecordFaults.{IsStop, fault_at}
use Rattle.vt_pool.specs.Pools.{PoolEntry, joined, AreRecords, IsFaultAt, AtFirst, IsFault, IsWantOfMemory}
use Rattle.vt_set_laws.specs.PoolFaults.{FaultsAreOne}
use Rattle.vt_records.proofs.Causes.{truncated_none, null_none, other_none}
use Rattle.vt_records.proofs.Tables.{values_again}
use Rattle.vt_records.proofs.ReadInvertsWrite.{same_record}

-- ---- the end of the whole records is unique

rest-one : (xs ys : List PoolEntry) (rest other : List ℕ) → AreRecords xs → AreRecords ys → NoRecordBegins rest → NoRecordBegins other
    → joined xs ++ rest ≡ joined ys ++ other → rest ≡ other
rest-one [] [] rest other are too never none e = e
rest-one [] (s ∷ ys) rest other are too never none e =
    absurd (never s.0 s.1 (joined ys ++ other) too.0 (e ∙ append_assoc (record_of s.0 s.1) (joined ys) other))
rest-one (r ∷ xs) [] rest other are too never none e =
    absurd (none r.0 r.1 (joined xs ++ rest) are.0 (sym e ∙ append_assoc (record_of r.0 r.1) (joined xs) rest))
rest-one (r ∷ xs) (s ∷ ys) rest other are too never none e =
    let same = same_record r.0 s.0 r.1 s.1 (joined xs ++ rest) (joined ys ++ other) are.0 too.0
    (sym (append_assoc (record_of r.0 r.1) (joined xs) rest) ∙ e ∙ append_assoc (record_of s.0 s.1) (joined ys) other) in
    rest-one xs ys rest other are.1 too.1 never none same.same_rest

-- ---- the first improper value is unique

record SameValues (kind other : Kind) (vs ws : List Value) : Type 0 where
  pub kinds : kind ≡ other
  pub values : vs ≡ ws

values-one : (rest : List ℕ) (kind other : Kind) (vs ws : List Value) → HasValues rest kind vs → HasValues rest other ws → SameValues kind other vs ws
values-one rest kind other vs ws is too =
    let kinds : kind ≡ other = same_Some kind other (sym is.known ∙ too.known) in
    let first = ap (values_at (fields_of kind) no_counts) is.parts ∙ values_again (fields_of kind) no_counts vs is.tail is.fields_fit in
    let second = ap (values_at (fields_of other) no_counts) too.parts ∙ values_again (fields_of other) no_counts ws too.tail too.fields_fit in
    let read : values_at (fields_of other) no_counts (drop 3 rest) ≡ Some (vs, is.tail) =
    subst (λ (k : Kind). values_at (fields_of k) no_counts (drop 3 rest) ≡ Some (vs, is.tail)) kinds first in
    let same = same_Some {A = List Value × List ℕ} (vs, is.tail) (ws, too.tail) (sym read ∙ second) in
    record { kinds = kinds; values = ap (λ (x : List Value × List ℕ). x.0) same }

record SameField (sort other : RecordField) (a b : ℕ) : Type 0 where
  pub sorts : sort ≡ other
  pub places : a ≡ b

first-one : (sort other : RecordField) (a b : ℕ) (fs : List RecordField) (vs : List Value) → IsFirstImproper sort a fs vs → IsFirstImproper other b fs vs
    → SameField sort other a b
first-one sort other a b [] vs is too = absurd is
first-one sort other a b (f ∷ fs) [] is too = absurd is
first-one sort other a b (f ∷ fs) (v ∷ vs) (inl is) (inl too) = record { sorts = sym is.0 ∙ too.0; places = is.1 ∙ sym too.1 }
first-one sort other a b (f ∷ fs) (v ∷ vs) (inl is) (inr too) = absurd (is.2 too.0)
first-one sort other a b (f ∷ fs) (v ∷ vs) (inr is) (inl too) = absurd (too.2 is.0)
first-one sort other a b (f ∷ fs) (v ∷ vs) (inr is) (inr too) =
    let rest = first-one sort other is.1.0 too.1.0 fs vs is.1.2 too.1.2 in
    record { sorts = rest.sorts; places = is.1.1 ∙ ap (λ (n : ℕ). length (field_spelling f v) + n) rest.places ∙ sym too.1.1 }

improper-one : (sort other : RecordField) (rest : List ℕ) (a b : ℕ) → IsImproper sort rest a → IsImproper other rest b → SameField sort other a b
improper-one sort other rest a b is too =
    let same = values-one rest is.kind too.kind is.values too.values is.read too.read in
    let first : IsFirstImproper sort is.later (fields_of too.kind) too.values =
    subst (λ (vs : List Value). IsFirstImproper sort is.later (fields_of too.kind) vs) same.values
    (subst (λ (k : Kind). IsFirstImproper sort is.later (fields_of k) is.values) same.kinds is.first) in
    let field = first-one sort other is.later too.later (fields_of too.kind) too.values first too.first in
    record { sorts = field.sorts; places = is.place ∙ ap (λ (n : ℕ). 3 + n) field.places ∙ sym too.place }

not-both : {P : Type 0} (a b : ℕ) → SameField ScaleBytes DecimalPlaces a b → P
not-both a b same = let no = same.sorts in absurd cc

-- ---- the causes exclude one another

module _ {P : Type 0} (rest : List ℕ) where
  null-cut : IsTruncated rest → HasNullId rest → P
  null-cut (inl lt) null = let head = null.head in absurd (omega arith)
  null-cut (inr cut) null = absurd (cut.named null.null)

  other-cut : IsTruncated rest → HasOtherType rest → P
  other-cut (inl lt) other = let head = other.head in absurd (omega arith)
  other-cut (inr cut) other = absurd (cut.known other.no_kind)

  improper-cut : (sort : RecordField) (at : ℕ) → IsTruncated rest → IsImproper sort rest at → P
  improper-cut sort at (inl lt) is = let head = is.head in absurd (omega arith)
  improper-cut sort at (inr cut) is = absurd (cut.cut is.kind is.values is.read)

  other-null : HasNullId rest → HasOtherType rest → P
  other-null null other = absurd (other.named null.null)

  improper-null : (sort : RecordField) (at : ℕ) → HasNullId rest → IsImproper sort rest at → P
  improper-null sort at null is = absurd (is.named null.null)

  improper-other : (sort : RecordField) (at : ℕ) → HasOtherType rest → IsImproper sort rest at → P
  improper-other sort at other is = let no = sym is.read.known ∙ other.no_kind in absurd cc

-- a stop other than want of memory
abbrev SaysWhy : RecordFault → Type 0
SaysWhy stops.OutOfMemory = ⊥
SaysWhy stop = Unit {0}

truncated-one : (rest : List ℕ) (t : RecordFault) → SaysWhy t → IsTruncated rest → IsStop rest t → stops.Truncated ≡ t
truncated-one rest stops.Truncated why is too = refl
truncated-one rest stops.NullId why is too = null-cut rest is too
truncated-one rest stops.LeftOutType why is too = other-cut rest is too.0
truncated-one rest stops.UnknownType why is too = other-cut rest is too.0
truncated-one rest (stops.Scale at) why is too = improper-cut rest ScaleBytes at is too
truncated-one rest (stops.Decimals at) why is too = improper-cut rest DecimalPlaces at is too
truncated-one rest stops.OutOfMemory why is too = absurd why

null-one : (rest : List ℕ) (t : RecordFault) → SaysWhy t → HasNullId rest → IsStop rest t → stops.NullId ≡ t
null-one rest stops.Truncated why is too = null-cut rest too is
null-one rest stops.NullId why is too = refl
null-one rest stops.LeftOutType why is too = other-null rest is too.0
null-one rest stops.UnknownType why is too = other-null rest is too.0
null-one rest (stops.Scale at) why is too = improper-null rest ScaleBytes at is too
null-one rest (stops.Decimals at) why is too = improper-null rest DecimalPlaces at is too
null-one rest stops.OutOfMemory why is too = absurd why

-- an unknown type is decided by whether it is one of the types left out
other-one : (rest : List ℕ) (s t : RecordFault) → SaysWhy t → HasOtherType rest → (IsStop rest stops.LeftOutType → s ≡ stops.LeftOutType)
    → (IsStop rest stops.UnknownType → s ≡ stops.UnknownType) → IsStop rest t → s ≡ t
other-one rest s stops.Truncated why is left unknown too = other-cut rest too is
other-one rest s stops.NullId why is left unknown too = other-null rest too is
other-one rest s stops.LeftOutType why is left unknown too = left too
other-one rest s stops.UnknownType why is left unknown too = unknown too
other-one rest s (stops.Scale at) why is left unknown too = improper-other rest ScaleBytes at is too
other-one rest s (stops.Decimals at) why is left unknown too = improper-other rest DecimalPlaces at is too
other-one rest s stops.OutOfMemory why is left unknown too = absurd why

-- an improper value is decided by its field
field-one : (rest : List ℕ) (sort : RecordField) (at : ℕ) (s t : RecordFault) → SaysWhy t → IsImproper sort rest at
    → ((other : ℕ) → SameField sort ScaleBytes at other → s ≡ stops.Scale other)
    → ((other : ℕ) → SameField sort DecimalPlaces at other → s ≡ stops.Decimals other) → IsStop rest t → s ≡ t
field-one rest sort at s stops.Truncated why is scale decimals too = improper-cut rest sort at too is
field-one rest sort at s stops.NullId why is scale decimals too = improper-null rest sort at too is
field-one rest sort at s stops.LeftOutType why is scale decimals too = improper-other rest sort at too.0 is
field-one rest sort at s stops.UnknownType why is scale decimals too = improper-other rest sort at too.0 is
field-one rest sort at s (stops.Scale other) why is scale decimals too = scale other (improper-one sort ScaleBytes rest at other is too)
field-one rest sort at s (stops.Decimals other) why is scale decimals too = decimals other (improper-one sort DecimalPlaces rest at other is too)
field-one rest sort at s stops.OutOfMemory why is scale decimals too = absurd why

-- the stop of a record's bytes is unique
stops-one : (rest : List ℕ) (s t : RecordFault) → SaysWhy s → SaysWhy t → IsStop rest s → IsStop rest t → s ≡ t
stops-one rest stops.Truncated t why so is too = truncated-one rest t so is too
stops-one rest stops.NullId t why so is too = null-one rest t so is too
stops-one rest stops.LeftOutType t why so is too =
    other-one rest stops.LeftOutType t so is.0 (λ left. refl) (λ unknown. absurd (unknown.1 is.1)) too
stops-one rest stops.UnknownType t why so is too =
    other-one rest stops.UnknownType t so is.0 (λ left. absurd (is.1 left.1)) (λ unknown. refl) too
stops-one rest (stops.Scale at) t why so is too =
    field-one rest ScaleBytes at (stops.Scale at) t so is
    (λ other same. ap (λ (n : ℕ). stops.Scale n) same.places) (λ other same. not-both at other same) too
stops-one rest (stops.Decimals at) t why so is too =
    field-one rest DecimalPlaces at (stops.Decimals at) t so is
    (λ other same. not-both other at (record { sorts = sym same.sorts; places = sym same.places }))
    (λ other same. ap (λ (n : ℕ). stops.Decimals n) same.places) too
stops-one rest stops.OutOfMemory t why so is too = absurd why

never-begins : (rest : List ℕ) (s : RecordFault) → SaysWhy s → IsStop rest s → NoRecordBegins rest
never-begins rest stops.Truncated why is = truncated_none rest is
never-begins rest stops.NullId why is = null_none rest is
never-begins rest stops.LeftOutType why is = other_none rest is.0
never-begins rest stops.UnknownType why is = other_none rest is.0
never-begins rest (stops.Scale at) why is = is.no_record
never-begins rest (stops.Decimals at) why is = is.no_record
never-begins rest stops.OutOfMemory why is = absurd why

-- ---- a fault is the stop of the first faulty record

record Stands (bytes : List ℕ) (fault : PoolFault) : Type 0 where
  pub records : List PoolEntry
  pub whole : AreRecords records
  pub rest : List ℕ
  pub parts : bytes ≡ joined records ++ rest
  pub stop : RecordFault
  pub why : SaysWhy stop
  pub says : IsStop rest stop
  pub fault_is : fault ≡ fault_at stop (length (joined records))

-- a fault at the first byte of its record
at-first : (bytes : List ℕ) (at : ℕ) (IsFaulty : List ℕ → Type 0) (is : IsFaultAt bytes at (AtFirst IsFaulty)) → at ≡ length (joined is.records)
at-first bytes at IsFaulty is = let none = is.faulty.0 in let place = is.place in omega arith

stands-at : (bytes : List ℕ) (at : ℕ) (IsFaulty : List ℕ → ℕ → Type 0) (fault : PoolFault) (is : IsFaultAt bytes at IsFaulty) (s : RecordFault)
    → SaysWhy s → IsStop is.rest s → fault ≡ fault_at s (length (joined is.records)) → Stands bytes fault
stands-at bytes at IsFaulty fault is s why says same = record {
  records = is.records;
  whole = is.whole;
  rest = is.rest;
  parts = is.parts;
  stop = s;
  why = why;
  says = says;
  fault_is = same;
}

stands : (bytes : List ℕ) (fault : PoolFault) → (IsWantOfMemory fault → ⊥) → IsFault bytes fault → Stands bytes fault
stands bytes (faults.Truncated at) named is =
    stands-at bytes at _ (faults.Truncated at) is stops.Truncated tt is.faulty.1 (ap (λ (n : ℕ). faults.Truncated n) (at-first bytes at _ is))
stands bytes (faults.NullId at) named is =
    stands-at bytes at _ (faults.NullId at) is stops.NullId tt is.faulty.1 (ap (λ (n : ℕ). faults.NullId n) (at-first bytes at _ is))
stands bytes (faults.LeftOutType at) named is =
    stands-at bytes at _ (faults.LeftOutType at) is stops.LeftOutType tt is.faulty.1 (ap (λ (n : ℕ). faults.LeftOutType n) (at-first bytes at _ is))
stands bytes (faults.UnknownType at) named is =
    stands-at bytes at _ (faults.UnknownType at) is stops.UnknownType tt is.faulty.1 (ap (λ (n : ℕ). faults.UnknownType n) (at-first bytes at _ is))
stands bytes (faults.Scale at) named is =
    stands-at bytes at (IsImproper ScaleBytes) (faults.Scale at) is (stops.Scale is.offset) tt is.faulty (ap (λ (n : ℕ). faults.Scale n) is.place)
stands bytes (faults.Decimals at) named is =
    stands-at bytes at (IsImproper DecimalPlaces) (faults.Decimals at) is (stops.Decimals is.offset) tt is.faulty (ap (λ (n : ℕ). faults.Decimals n) is.place)
stands bytes (faults.OutOfMemory at) named is = absurd (named tt)

pub faults-one : FaultsAreOne
faults-one bytes fault other is too named also =
    let a = stands bytes fault named is in
    let b = stands bytes other also too in
    let rest : a.rest ≡ b.rest =
    rest-one a.records b.records a.rest b.rest a.whole b.whole (never-begins a.rest a.stop a.why a.says)
    (never-begins b.rest b.stop b.why b.says) (sym a.parts ∙ b.parts) in
    let stop : a.stop ≡ b.stop = stops-one b.rest a.stop b.stop a.why b.why (subst (λ (r : List ℕ). IsStop r a.stop) rest a.says) b.says in
    let first = ap length a.parts ∙ length-append (joined a.records) a.rest in
    let second = ap length b.parts ∙ length-append (joined b.records) b.rest in
    let left = ap length rest in
    let place : length (joined a.records) ≡ length (joined b.records) = omega (arith, first, second, left) in
    a.fault_is ∙ ap₂ (λ (s : RecordFault) (n : ℕ). fault_at s n) stop place ∙ sym b.fault_is
