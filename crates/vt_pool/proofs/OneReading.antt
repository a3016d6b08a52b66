-- The bytes of a pool have at most one reading.
use Rattle.std.proofs.Common.{◌≡◌, ℕ, ◌<◌, Bool, true, false, cond, eqb, not, List, [], ◌∷◌, ◌++◌, length, filter, Option, Some, None, refl, sym, ap, subst, ◌∙◌, append_assoc, arith, inl, inr}
use Rattle.std.specs.List.{AllByRecursion, IsDistinct}
use Rattle.std.proofs.lemmas.List.{append-nil}
use Rattle.std.proofs.lemmas.Map.Keys.{IsDistinct-head, IsDistinct-tail, IsDistinct-cons}
use Rattle.std.specs.FinMap as finite
use Rattle.vt_kinds.specs.Layout.{RecordField, ScaleBytes, DecimalPlaces}
use Rattle.vt_kinds.specs.Records.{record_of}
use Rattle.vt_stores.specs.Stores.{ObjectMap}
use Rattle.vt_records.specs.declared.fault.PoolFault.{PoolFault}
use Rattle.vt_records.specs.declared.fault.PoolFault.TheVariants as faults
use Rattle.vt_pool.specs.Pools.{PoolEntry, joined, AreRecords, first_occurrences, ids, IsInForce, IsFaultAt, IsFault, IsWantOfMemory, ReadingsAreOne, is_of_type}
use Rattle.vt_records.specs.Faults.{NoRecordBegins, HasNullId, HasOtherType, IsTruncated, IsImproper}
use Rattle.vt_pool.proofs.EntryIndices.{get-contents}
use Rattle.vt_records.proofs.ReadInvertsWrite.{same_record}
use Rattle.vt_records.proofs.Causes.{truncated_none, null_none, other_none}
use Rattle.vt_pool.proofs.RoundTrip.{joined_one, same_entries}

-- ---- first occurrences are unique

abbrev without : ℕ → List ℕ → List ℕ
without x xs = filter (λ other. not (eqb x other)) xs

out_cases : (b : Bool) (x y : ℕ) (zs : List ℕ) → eqb x y ≡ b → AllByRecursion (λ z. eqb x z ≡ false) zs
    → AllByRecursion (λ z. eqb x z ≡ false) (cond (not b) (y ∷ zs) zs)
out_cases true x y zs is later = later
out_cases false x y zs is later = (is, later)

out : (x : ℕ) (xs : List ℕ) → AllByRecursion (λ z. eqb x z ≡ false) (without x xs)
out x [] = tt
out x (y ∷ ys) = out_cases (eqb x y) x y (without x ys) refl (out x ys)

still_cases : (b : Bool) (x y : ℕ) (zs : List ℕ) → eqb x y ≡ false → AllByRecursion (λ z. eqb x z ≡ false) zs
    → AllByRecursion (λ z. eqb x z ≡ false) (cond b (y ∷ zs) zs)
still_cases true x y zs is later = (is, later)
still_cases false x y zs is later = later

still_apart : (x y : ℕ) (xs : List ℕ) → AllByRecursion (λ z. eqb x z ≡ false) xs → AllByRecursion (λ z. eqb x z ≡ false) (without y xs)
still_apart x y [] apart = tt
still_apart x y (z ∷ zs) apart = still_cases (not (eqb y z)) x z (without y zs) apart.0 (still_apart x y zs apart.1)

without_cases : (b : Bool) (y : ℕ) (zs : List ℕ) → AllByRecursion (λ z. eqb y z ≡ false) zs → IsDistinct eqb zs → IsDistinct eqb (cond b (y ∷ zs) zs)
without_cases true y zs apart distinct = IsDistinct-cons eqb y zs apart distinct
without_cases false y zs apart distinct = distinct

without_distinct : (x : ℕ) (xs : List ℕ) → IsDistinct eqb xs → IsDistinct eqb (without x xs)
without_distinct x [] distinct = distinct
without_distinct x (y ∷ ys) distinct =
    without_cases (not (eqb x y)) y (without x ys) (still_apart y x ys (IsDistinct-head eqb y ys distinct)) (without_distinct x ys (IsDistinct-tail eqb y ys distinct))

none_distinct : IsDistinct eqb []
unfolding IsDistinct
none_distinct = tt

firsts_distinct : (xs : List ℕ) → IsDistinct eqb (first_occurrences xs)
firsts_distinct [] = none_distinct
firsts_distinct (x ∷ xs) =
    let rest = first_occurrences xs in
    IsDistinct-cons eqb x (without x rest) (out x rest) (without_distinct x rest (firsts_distinct xs))

-- ---- the objects in force are unique

in_force_one : (records p q : List PoolEntry) → IsInForce records p → IsInForce records q → p ≡ q
in_force_one records p q is other =
    same_entries p q (is.order ∙ sym other.order) (subst (IsDistinct eqb) (sym other.order) (firsts_distinct (ids records)))
    (λ id. sym (get-contents p id) ∙ ap (λ (m : ObjectMap). finite.get m id) (is.last ∙ sym other.last) ∙ get-contents q id)

pools_one : (records others p q : List PoolEntry) → AreRecords records → AreRecords others → joined records ≡ joined others → IsInForce records p → IsInForce others q → p ≡ q
pools_one records others p q are too same is other =
    let one : others ≡ records = joined_one others records too are (sym same) in
    in_force_one records p q is (subst (λ (rs : List PoolEntry). IsInForce rs q) one other)

-- ---- the end of the whole records is unique

rest_one : (xs ys : List PoolEntry) (rest other : List ℕ) → AreRecords xs → AreRecords ys → NoRecordBegins rest → NoRecordBegins other → joined xs ++ rest ≡ joined ys ++ other → rest ≡ other
rest_one [] [] rest other are too never none e = e
rest_one [] (s ∷ ys) rest other are too never none e =
    absurd (never s.0 s.1 (joined ys ++ other) too.0 (e ∙ append_assoc (record_of s.0 s.1) (joined ys) other))
rest_one (r ∷ xs) [] rest other are too never none e =
    absurd (none r.0 r.1 (joined xs ++ rest) are.0 (sym e ∙ append_assoc (record_of r.0 r.1) (joined xs) rest))
rest_one (r ∷ xs) (s ∷ ys) rest other are too never none e =
    let same = same_record r.0 s.0 r.1 s.1 (joined xs ++ rest) (joined ys ++ other) are.0 too.0
    (sym (append_assoc (record_of r.0 r.1) (joined xs) rest) ∙ e ∙ append_assoc (record_of s.0 s.1) (joined ys) other) in
    rest_one xs ys rest other are.1 too.1 never none same.same_rest

-- ---- causes of faults exclude one another

some_kind : {A : Type 0} {P : Type 0} (o : Option A) (x : A) → o ≡ Some x → o ≡ None → P
some_kind o x some none = let no = sym some ∙ none in absurd cc

cut_known : (rest : List ℕ) → IsTruncated rest → HasOtherType rest → ⊥
cut_known rest (inl lt) other = let head = other.head in absurd (omega arith)
cut_known rest (inr cut) other = cut.known other.no_kind

null_named : (rest : List ℕ) → HasNullId rest → HasOtherType rest → ⊥
null_named rest null other = other.named null.null

improper_known : (sort : RecordField) (rest : List ℕ) (at : ℕ) → IsImproper sort rest at → HasOtherType rest → ⊥
improper_known sort rest at is other = some_kind _ is.kind is.read.known other.no_kind

-- whether the type is at fault
abbrev IsOfType : Bool → List ℕ → Type 0
IsOfType true rest = HasOtherType rest
IsOfType false rest = HasOtherType rest → ⊥

-- the records before a fault, and the faulty bytes after them
record Stands (bytes : List ℕ) (of_type : Bool) : Type 0 where
  pub records : List PoolEntry
  pub whole : AreRecords records
  pub rest : List ℕ
  pub parts : bytes ≡ joined records ++ rest
  pub some : 0 < length rest
  pub none : NoRecordBegins rest
  pub cause : IsOfType of_type rest

stands_at : (bytes : List ℕ) (at : ℕ) (Faulty : List ℕ → ℕ → Type 0) (of_type : Bool) → ((rest : List ℕ) (offset : ℕ) → Faulty rest offset → NoRecordBegins rest)
    → ((rest : List ℕ) (offset : ℕ) → Faulty rest offset → IsOfType of_type rest) → IsFaultAt bytes at Faulty → Stands bytes of_type
stands_at bytes at Faulty of_type never cause is = record {
  records = is.records;
  whole = is.whole;
  rest = is.rest;
  parts = is.parts;
  some = is.some;
  none = never is.rest is.offset is.faulty;
  cause = cause is.rest is.offset is.faulty;
}

stands : (bytes : List ℕ) (fault : PoolFault) → IsFault bytes fault → (IsWantOfMemory fault → ⊥) → Stands bytes (is_of_type fault)
stands bytes (faults.Truncated at) is named = stands_at bytes at _ false (λ rest offset f. truncated_none rest f.1) (λ rest offset f. cut_known rest f.1) is
stands bytes (faults.NullId at) is named = stands_at bytes at _ false (λ rest offset f. null_none rest f.1) (λ rest offset f. null_named rest f.1) is
stands bytes (faults.LeftOutType at) is named = stands_at bytes at _ true (λ rest offset f. other_none rest f.1.0) (λ rest offset f. f.1.0) is
stands bytes (faults.UnknownType at) is named = stands_at bytes at _ true (λ rest offset f. other_none rest f.1.0) (λ rest offset f. f.1.0) is
stands bytes (faults.Scale at) is named =
    stands_at bytes at (IsImproper ScaleBytes) false (λ rest offset f. f.no_record) (λ rest offset f. improper_known ScaleBytes rest offset f) is
stands bytes (faults.Decimals at) is named =
    stands_at bytes at (IsImproper DecimalPlaces) false (λ rest offset f. f.no_record) (λ rest offset f. improper_known DecimalPlaces rest offset f) is
stands bytes (faults.OutOfMemory at) is named = absurd (named tt)

-- ---- the faults of a pool

nothing_begins : NoRecordBegins []
nothing_begins = truncated_none [] (inl (omega arith))

whole_or : {P : Type 0} (bytes : List ℕ) (records : List PoolEntry) {of_type : Bool} → AreRecords records → bytes ≡ joined records → Stands bytes of_type → P
whole_or bytes records are same s =
    let one : s.rest ≡ [] = rest_one s.records records s.rest [] s.whole are s.none nothing_begins (sym s.parts ∙ same ∙ sym (append-nil (joined records))) in
    let len = ap length one in
    let some = s.some in
    absurd (omega arith)

faults_none : (bytes : List ℕ) (records : List PoolEntry) (fault : PoolFault) → AreRecords records → bytes ≡ joined records → IsFault bytes fault → IsWantOfMemory fault
faults_none bytes records (faults.OutOfMemory at) are same is = tt
faults_none bytes records (faults.Truncated at) are same is = whole_or bytes records are same (stands bytes (faults.Truncated at) is (λ no. no))
faults_none bytes records (faults.NullId at) are same is = whole_or bytes records are same (stands bytes (faults.NullId at) is (λ no. no))
faults_none bytes records (faults.LeftOutType at) are same is = whole_or bytes records are same (stands bytes (faults.LeftOutType at) is (λ no. no))
faults_none bytes records (faults.UnknownType at) are same is = whole_or bytes records are same (stands bytes (faults.UnknownType at) is (λ no. no))
faults_none bytes records (faults.Scale at) are same is = whole_or bytes records are same (stands bytes (faults.Scale at) is (λ no. no))
faults_none bytes records (faults.Decimals at) are same is = whole_or bytes records are same (stands bytes (faults.Decimals at) is (λ no. no))

type_cases : (a b : Bool) (rest : List ℕ) → IsOfType a rest → IsOfType b rest → a ≡ b
type_cases true true rest is other = refl
type_cases true false rest is other = absurd (other is)
type_cases false true rest is other = absurd (is other)
type_cases false false rest is other = refl

types_one : (bytes : List ℕ) (f g : PoolFault) → IsFault bytes f → IsFault bytes g → (IsWantOfMemory f → ⊥) → (IsWantOfMemory g → ⊥) → is_of_type f ≡ is_of_type g
types_one bytes f g is other named too =
    let a = stands bytes f is named in
    let b = stands bytes g other too in
    let same : a.rest ≡ b.rest = rest_one a.records b.records a.rest b.rest a.whole b.whole a.none b.none (sym a.parts ∙ b.parts) in
    type_cases (is_of_type f) (is_of_type g) b.rest (subst (IsOfType (is_of_type f)) same a.cause) b.cause

pub readings_one : ReadingsAreOne
readings_one = record { pools = pools_one; faults = faults_none; types = types_one }
