-- The records of an inspection are in the pool's bytes where they are said to be.
use Rattle.std.proofs.Common.{◌≡◌, ◌⊎◌, ℕ, zero, suc, ◌+◌, ◌-◌, ◌<◌, ◌≤◌, Bool, true, false, cond, eqb, List, [], ◌∷◌, ◌++◌, map, reverse, take, drop, length, Option, Some, None, refl, sym, ap, ap₂, subst, ◌∙◌, inl, inr, arith}
use Rattle.std.proofs.lemmas.Bool.{eqb-true, leb-true, cases_lt}
use Rattle.std.proofs.lemmas.Cmp.{nat_cmp_total}
use Rattle.std.proofs.lemmas.List.{append_assoc, append-nil, length-append, length-drop, length-take-le, take-append-drop, take-take, take-set-le, take_at, drop-take, drop-drop, drop_at, get_or-set_other}
use Rattle.std.proofs.lemmas.List.Elements.{Contains-append_left}
use Rattle.std.specs.Prelude.{Contains, filter, is_some, nat_le, slice_get, slice_index, slice_set}
use Rattle.std.specs.Option.{option_map}
use Rattle.std.specs.Ordering.{nat_cmp}
use Rattle.std.specs.FinMap as finite
use Rattle.vt_kinds.specs.Records.{Seen, kind_of, record_of}
use Rattle.vt_kinds.specs.declared.object.Object.TheVariants as objects
use Rattle.vt_stores.specs.Shapes.{macro_bytes}
use Rattle.vt_stores.specs.Stores.{Objects, IsPlace, object_at, by_rising_id}
use Rattle.vt_chains.proofs.Elements.{Contains-nil, Contains-head, Contains-tail, cons_case, unsome}
use Rattle.vt_records.specs.declared.fault.PoolFault.{PoolFault}
use Rattle.vt_records.specs.declared.fault.PoolFault.TheVariants as faults
use Rattle.vt_records.specs.declared.record_fault.RecordFault.{RecordFault}
use Rattle.vt_records.specs.declared.record_fault.RecordFault.TheVariants as stops
use Rattle.vt_records.specs.RecordFaults.{fault_at}
use Rattle.vt_verify.specs.Macros.{is_macro}
use Rattle.vt_verify.specs.Updates.{or_else}
use Rattle.check_reading.specs.declared.pool_reading.ObjectRecord.{ObjectRecord}
use Rattle.check_reading.specs.Readings.{written, scale_one, mended, mended_at, most_mended, Step, IsReading, FoundAt, found_from, faults_from, passed_from, entry_of, objects_of, later_or, last_at, or_zero, record_in}
use Rattle.check_reading.specs.Passed.{is_of_type, if_whole, size_in, passed_size}
use Rattle.check_reading.specs.Readings.Step.{Found, Mended, Passed, Ended}
use Rattle.check_reading.proofs.lemmas.Readings.{drop_mended, length_mended}
use Rattle.check_reading.proofs.lemmas.InForce.{latest, latest_more, same_known, same_test}
use Rattle.check_inspect.specs.declared.finding.Finding.{Finding}
use Rattle.check_inspect.specs.declared.finding.Finding.TheVariants as findings
use Rattle.check_inspect.specs.declared.finding.FindingPlace.TheVariants as places
use Rattle.check_inspect.specs.declared.inspection.Inspection.{Inspection}
use Rattle.check_inspect.specs.Inspections.{IsInspection, is_judged}
use Rattle.check_inspect.specs.Places.{IsRecordOf, IsOffset}
use Rattle.vt_tool_laws.proofs.Truths.{map_in}
use Rattle.vt_tool_laws.specs.PlaceLaws.{StandsAt, IsInWrongField, AreMended, StandInBytes, RecordsAreInPlace}

-- ---- the bytes with proper fields

-- the bytes of the pool after all fields are mended, where the steps begin at an index
abbrev proper : ℕ → List Step → List ℕ → List ℕ
proper at [] bytes = bytes
proper at (Found id o ∷ steps) bytes = proper (at + length (record_of id o)) steps bytes
proper at (Mended fault ∷ steps) bytes = proper at steps (mended_at at fault bytes)
proper at (Passed fault id number size ∷ steps) bytes = proper (at + size) steps bytes
proper at (Ended fault ∷ steps) bytes = bytes

length_proper : (at : ℕ) (steps : List Step) (bytes : List ℕ) → length (proper at steps bytes) ≡ length bytes
length_proper at [] bytes = refl
length_proper at (Found id o ∷ steps) bytes = length_proper (at + length (record_of id o)) steps bytes
length_proper at (Mended fault ∷ steps) bytes = length_proper at steps (mended_at at fault bytes) ∙ length_mended at fault bytes
length_proper at (Passed fault id number size ∷ steps) bytes = length_proper (at + size) steps bytes
length_proper at (Ended fault ∷ steps) bytes = refl

take_written : (n from : ℕ) (bytes new : List ℕ) → n ≤ from → take n (written bytes from new) ≡ take n bytes
take_written n from bytes [] below = refl
take_written n from bytes (b ∷ new) below = take_written n (from + 1) (slice_set bytes from b) new (omega (arith, below)) ∙ take-set-le n bytes from b below

take_mended : (at : ℕ) (fault : RecordFault) (bytes : List ℕ) → take at (mended_at at fault bytes) ≡ take at bytes
take_mended at stops.Truncated bytes = refl
take_mended at stops.UnknownType bytes = refl
take_mended at stops.LeftOutType bytes = refl
take_mended at (stops.Scale field) bytes = take_written at (at + field) bytes scale_one (omega arith)
take_mended at (stops.Decimals field) bytes = take_written at (at + field) bytes (7 ∷ []) (omega arith)
take_mended at stops.OutOfMemory bytes = refl
take_mended at stops.NullId bytes = refl

-- the bytes before the steps stay
take_proper : (at : ℕ) (steps : List Step) (bytes : List ℕ) → take at (proper at steps bytes) ≡ take at bytes
take_proper at [] bytes = refl
take_proper at (Found id o ∷ steps) bytes =
    let to = at + length (record_of id o) in
    sym (take-take at to (proper to steps bytes) (omega arith)) ∙ ap (take at) (take_proper to steps bytes) ∙ take-take at to bytes (omega arith)
take_proper at (Mended fault ∷ steps) bytes = take_proper at steps (mended_at at fault bytes) ∙ take_mended at fault bytes
take_proper at (Passed fault id number size ∷ steps) bytes =
    let to = at + size in
    sym (take-take at to (proper to steps bytes) (omega arith)) ∙ ap (take at) (take_proper to steps bytes) ∙ take-take at to bytes (omega arith)
take_proper at (Ended fault ∷ steps) bytes = refl

-- ---- the records stand in them

-- bytes whose front is known, from an index on, stand there
stands : (at : ℕ) (part rest bytes whole : List ℕ) → at ≤ length bytes → drop at bytes ≡ part ++ rest → take (at + length part) whole ≡ take (at + length part) bytes
    → StandsAt part whole at
stands at part rest bytes whole within begins same =
    let n = at + length part in
    let split : take n bytes ≡ take at bytes ++ part =
    sym (take-append-drop at (take n bytes))
    ∙ ap₂ (λ (a b : List ℕ). a ++ b) (take-take at n bytes (omega arith))
    (drop-take at (length part) bytes ∙ ap (take (length part)) begins ∙ take_at part rest (length part) refl) in
    record {
      front = take at bytes;
      back = drop n whole;
      joined = sym (take-append-drop n whole) ∙ ap (λ (l : List ℕ). l ++ drop n whole) (same ∙ split) ∙ append_assoc (take at bytes) part (drop n whole);
      before = length-take-le at bytes within;
    }

-- a record that is passed over is whole
whole_case : (b : Bool) (n size : ℕ) (bytes : List ℕ) → nat_le n (length bytes) ≡ b → cond b (Some n) None ≡ Some size → size ≤ length bytes
whole_case true n size bytes test is = let same = ap (unsome size) is in let within = leb-true n (length bytes) test in omega (arith, same, within)
whole_case false n size bytes test is = absurd cc

size_case : (bytes : List ℕ) (sized : Option ℕ) (size : ℕ) → if_whole bytes sized ≡ Some size → size ≤ length bytes
size_case bytes None size is = absurd cc
size_case bytes (Some n) size is = whole_case (nat_le n (length bytes)) n size bytes refl is

type_case : (b : Bool) (bytes : List ℕ) (size : ℕ) → cond b (if_whole bytes (size_in bytes)) None ≡ Some size → size ≤ length bytes
type_case true bytes size is = size_case bytes (size_in bytes) size is
type_case false bytes size is = absurd cc

whole_size : (fault : RecordFault) (bytes : List ℕ) (size : ℕ) → passed_size fault bytes ≡ Some size → size ≤ length bytes
whole_size fault bytes size is = type_case (is_of_type fault) bytes size is

-- an index is outside of a range, or in it
outside : (k from n : ℕ) → ((k < from) ⊎ (from + n ≤ k)) ⊎ ((from ≤ k) × (k < from + n))
outside k from n =
    elim (cases_lt k from) as (λ _. ((k < from) ⊎ (from + n ≤ k)) ⊎ ((from ≤ k) × (k < from + n))) [
      | inl below ↦ inl (inl below)
      | inr above ↦ elim (cases_lt k (from + n)) as (λ _. ((k < from) ⊎ (from + n ≤ k)) ⊎ ((from ≤ k) × (k < from + n))) [
        | inl within ↦ inr (above, within)
        | inr past ↦ inl (inr past)
      ]
    ]

drop_next : (at : ℕ) (part rest bytes : List ℕ) → drop at bytes ≡ part ++ rest → drop (at + length part) bytes ≡ rest
drop_next at part rest bytes begins = sym (drop-drop (length part) at bytes) ∙ ap (drop (length part)) begins ∙ drop_at part rest (length part) refl

all_stand : (steps : List Step) (at left : ℕ) (bytes : List ℕ) → at ≤ length bytes → IsReading left (drop at bytes) steps
    → (f : FoundAt) → Contains (found_from at steps) f → StandsAt (record_of f.id f.object) (proper at steps bytes) f.at
all_stand [] at left bytes within is f inside = absurd (Contains-nil f inside)
all_stand (Found id o ∷ steps) at left bytes within is f inside =
    let part = record_of id o in
    let to = at + length part in
    let first : FoundAt = record { id = id; at = at; object = o } in
    let sum = ap length is.1.1 ∙ length-append part is.1.0 in
    let dropped = length-drop at bytes in
    cons_case (StandsAt (record_of f.id f.object) (proper to steps bytes) f.at) first f (found_from to steps) inside
    (λ same. subst (λ (g : FoundAt). StandsAt (record_of g.id g.object) (proper to steps bytes) g.at) same
    (stands at part is.1.0 bytes (proper to steps bytes) within is.1.1 (take_proper to steps bytes)))
    (all_stand steps to most_mended bytes (omega (arith, sum, dropped, within))
    (subst (λ (l : List ℕ). IsReading most_mended l steps) (sym (drop_next at part is.1.0 bytes is.1.1)) is.1.2) f)
all_stand (Mended fault ∷ steps) at left bytes within is f inside =
    let long = length_mended at fault bytes in
    all_stand steps at (left - 1) (mended_at at fault bytes) (omega (arith, long, within))
    (subst (λ (l : List ℕ). IsReading (left - 1) l steps) (sym (drop_mended bytes at fault)) is.3) f inside
all_stand (Passed fault id number size ∷ steps) at left bytes within is f inside =
    let whole = whole_size fault (drop at bytes) size is.1 in
    let dropped = length-drop at bytes in
    all_stand steps (at + size) most_mended bytes (omega (arith, whole, dropped, within))
    (subst (λ (l : List ℕ). IsReading most_mended l steps) (drop-drop size at bytes) is.4) f inside
all_stand (Ended fault ∷ steps) at left bytes within is f inside = absurd (Contains-nil f inside)

-- ---- the fields that are mended

get_written : (from k : ℕ) (bytes new : List ℕ) → (k < from) ⊎ (from + length new ≤ k) → slice_index (written bytes from new) k ≡ slice_index bytes k
get_written from k bytes [] apart = refl
get_written from k bytes (b ∷ new) apart =
    elim apart as (λ _. slice_index (written (slice_set bytes from b) (from + 1) new) k ≡ slice_index bytes k) [
      | inl below ↦ get_written (from + 1) k (slice_set bytes from b) new (inl (omega (arith, below)))
          ∙ get_or-set_other bytes from k b 0 (λ e. absurd (omega (arith, e, below)))
      | inr above ↦ get_written (from + 1) k (slice_set bytes from b) new (inr (omega (arith, above)))
          ∙ get_or-set_other bytes from k b 0 (λ e. absurd (omega (arith, e, above)))
    ]

-- an index in the field of a fault that is mended
abbrev IsInField : List PoolFault → ℕ → Type 0
IsInField told k = ((at : ℕ) × Contains told (faults.Scale at) × (at ≤ k) × (k < at + 4)) ⊎ Contains told (faults.Decimals k)

more_told : (told : List PoolFault) (fault : PoolFault) (k : ℕ) → IsInField told k → IsInField (fault ∷ told) k
more_told told fault k is =
    elim is as (λ _. IsInField (fault ∷ told) k) [
      | inl scale ↦ inl (scale.0, Contains-tail fault (faults.Scale scale.0) told scale.1, scale.2, scale.3)
      | inr decimals ↦ inr (Contains-tail fault (faults.Decimals k) told decimals)
    ]

-- a byte stays, or is in the field of one of these faults
abbrev Stays : List ℕ → List ℕ → List PoolFault → ℕ → Type 0
Stays new old told k = (slice_index new k ≡ slice_index old k) ⊎ IsInField told k

stays_mended : (at k : ℕ) (fault : RecordFault) (bytes : List ℕ) (later : List PoolFault) → Stays (mended_at at fault bytes) bytes (fault_at fault at ∷ later) k
stays_mended at k stops.Truncated bytes later = inl refl
stays_mended at k stops.UnknownType bytes later = inl refl
stays_mended at k stops.LeftOutType bytes later = inl refl
stays_mended at k (stops.Scale field) bytes later =
    elim (outside k (at + field) 4) as (λ _. Stays (written bytes (at + field) scale_one) bytes (faults.Scale (at + field) ∷ later) k) [
      | inl apart ↦ inl (get_written (at + field) k bytes scale_one apart)
      | inr among ↦ inr (inl (at + field, Contains-head (faults.Scale (at + field)) later, among.0, among.1))
    ]
stays_mended at k (stops.Decimals field) bytes later =
    elim (outside k (at + field) 1) as (λ _. Stays (written bytes (at + field) (7 ∷ [])) bytes (faults.Decimals (at + field) ∷ later) k) [
      | inl apart ↦ inl (get_written (at + field) k bytes (7 ∷ []) apart)
      | inr among ↦ let same : at + field ≡ k = omega (arith, among.0, among.1) in
          inr (inr (subst (λ (place : ℕ). Contains (faults.Decimals (at + field) ∷ later) (faults.Decimals place)) same
          (Contains-head (faults.Decimals (at + field)) later)))
    ]
stays_mended at k stops.OutOfMemory bytes later = inl refl
stays_mended at k stops.NullId bytes later = inl refl

all_stay : (steps : List Step) (at k : ℕ) (bytes : List ℕ) → Stays (proper at steps bytes) bytes (faults_from at steps) k
all_stay [] at k bytes = inl refl
all_stay (Found id o ∷ steps) at k bytes = all_stay steps (at + length (record_of id o)) k bytes
all_stay (Mended fault ∷ steps) at k bytes =
    let later = faults_from at steps in
    let first = fault_at fault at in
    elim (all_stay steps at k (mended_at at fault bytes)) as (λ _. Stays (proper at steps (mended_at at fault bytes)) bytes (first ∷ later) k) [
      | inl same ↦ elim (stays_mended at k fault bytes later) as (λ _. Stays (proper at steps (mended_at at fault bytes)) bytes (first ∷ later) k) [
        | inl own ↦ inl (same ∙ own)
        | inr field ↦ inr field
      ]
      | inr field ↦ inr (more_told later first k field)
    ]
all_stay (Passed fault id number size ∷ steps) at k bytes =
    let first = fault_at fault at in
    elim (all_stay steps (at + size) k bytes) as (λ _. Stays (proper (at + size) steps bytes) bytes (first ∷ faults_from (at + size) steps) k) [
      | inl same ↦ inl same
      | inr field ↦ inr (more_told (faults_from (at + size) steps) first k field)
    ]
all_stay (Ended fault ∷ steps) at k bytes = inl refl

-- ---- the last record of an object

-- a record that was read
record IsReadAs (found : List FoundAt) (id : ℕ) (o : Seen) (at : ℕ) : Type 0 where
  f : FoundAt
  inside : Contains found f
  id_is : f.id ≡ id
  object_is : f.object ≡ o
  at_is : f.at ≡ at

read_before : (first : FoundAt) (found : List FoundAt) (id : ℕ) (o : Seen) (at : ℕ) → IsReadAs found id o at → IsReadAs (first ∷ found) id o at
read_before first found id o at is =
    record { f = is.f; inside = Contains-tail first is.f found is.inside; id_is = is.id_is; object_is = is.object_is; at_is = is.at_is }

one_case : (f : FoundAt) (found : List FoundAt) (id : ℕ) (o : Seen) (b : Bool) → eqb id f.id ≡ b → cond b (Some f.object) None ≡ Some o
    → IsReadAs (f ∷ found) id o (or_zero (later_or None b f.at))
one_case f found id o true same is =
    record { f = f; inside = Contains-head f found; id_is = sym (eqb-true id f.id same); object_is = ap (unsome o) is; at_is = refl }
one_case f found id o false same is = absurd cc

last_case : (f : FoundAt) (found : List FoundAt) (id : ℕ) (o : Seen) (a : Option Seen) (b : Option ℕ) → object_at (latest found) id ≡ a → last_at id found ≡ b
    → is_some a ≡ is_some b → or_else a (object_at (entry_of f ∷ []) id) ≡ Some o
    → (object_at (latest found) id ≡ Some o → IsReadAs found id o (or_zero (last_at id found))) → IsReadAs (f ∷ found) id o (or_zero (later_or b (eqb id f.id) f.at))
last_case f found id o (Some x) (Some at) first last known is later =
    read_before f found id o at (subst (λ (n : Option ℕ). IsReadAs found id o (or_zero n)) last (later (first ∙ is)))
last_case f found id o (Some x) None first last known is later = absurd cc
last_case f found id o None (Some at) first last known is later = absurd cc
last_case f found id o None None first last known is later =
    one_case f found id o (eqb id f.id) refl (ap (λ (b : Bool). cond b (Some f.object) None) (sym (same_test id f.id)) ∙ is)

-- the object in force is that of the last record of its ID
last_read : (found : List FoundAt) (id : ℕ) (o : Seen) → object_at (latest found) id ≡ Some o → IsReadAs found id o (or_zero (last_at id found))
last_read [] id o is = absurd cc
last_read (f ∷ found) id o is =
    last_case f found id o (object_at (latest found) id) (last_at id found) refl refl (same_known found id) (sym (latest_more f found id) ∙ is) (last_read found id o)

in_force : (found : List FoundAt) (id : ℕ) (o : Seen) → object_at (objects_of found) id ≡ Some o → object_at (latest found) id ≡ Some o
unfolding by_rising_id
in_force found id o is =
    sym (finite.get-from_entries nat_cmp_total (latest found) id) ∙ finite.get-entries (finite.from_entries {R = nat_cmp} (latest found)) id ∙ is

get_mapped : {X Y : Type 0} (f : X → Y) (xs : List X) (k : ℕ) (x : X) → slice_get xs k ≡ Some x → slice_get (map f xs) k ≡ Some (f x)
get_mapped f [] k x is = absurd cc
get_mapped f (y ∷ xs) zero x is = ap (option_map f) is
get_mapped f (y ∷ xs) (suc k) x is = get_mapped f xs k x is

-- ---- a macro's bytes in its record

macro_parts : (id : ℕ) (o : Seen) → is_macro (kind_of o) ≡ true → (front : List ℕ) × (record_of id o ≡ front ++ macro_bytes o) × (length front ≡ 5)
macro_parts id (objects.Macro m) is = (take 5 (record_of id (objects.Macro m)), ap (λ (l : List ℕ). take 5 (record_of id (objects.Macro m)) ++ l) (append-nil m.bytes), refl)
macro_parts id o is = absurd cc

within_record : (front part : List ℕ) (record_bytes whole : List ℕ) (at place : ℕ) → StandsAt record_bytes whole at → record_bytes ≡ front ++ part → place ≡ at + length front
    → StandsAt part whole place
within_record front part record_bytes whole at place is parts sum = record {
  front = is.front ++ front;
  back = is.back;
  joined = is.joined ∙ ap (λ (l : List ℕ). is.front ++ (l ++ is.back)) parts ∙ ap (λ (l : List ℕ). is.front ++ l) (append_assoc front part is.back)
      ∙ sym (append_assoc is.front front (part ++ is.back));
  before = let long = length-append is.front front in omega (arith, sum, long, is.before);
}

-- ---- the whole

module _ (bytes : List ℕ) (i : Inspection) (is : IsInspection bytes i) where
  abbrev told : List PoolFault
  told = faults_from 0 is.steps

  abbrev found : List FoundAt
  found = found_from 0 is.steps

  abbrev whole : List ℕ
  whole = proper 0 is.steps bytes

  is_told : (fault : PoolFault) → Contains told fault → Contains i.findings.items (findings.Record fault)
  is_told fault inside =
      subst (λ (l : List Finding). Contains l (findings.Record fault)) (sym is.found)
      (Contains-append_left (map findings.Record told) (filter (is_judged (passed_from 0 is.steps)) is.of_rules) (findings.Record fault) (map_in findings.Record told fault inside))

  field_told : (k : ℕ) → IsInField told k → IsInWrongField i.findings.items k
  field_told k field =
      elim field as (λ _. IsInWrongField i.findings.items k) [
        | inl scale ↦ inl (scale.0, is_told (faults.Scale scale.0) scale.1, scale.2, scale.3)
        | inr decimals ↦ inr (is_told (faults.Decimals k) decimals)
      ]

  record_stands : (id : ℕ) (o : Seen) (r : ObjectRecord) → object_at i.objects id ≡ Some o → IsRecordOf i id r → StandsAt (record_of id o) whole r.at
  record_stands id o r there at_place =
      let read = last_read found id o (in_force found id o (subst (λ (os : Objects). object_at os id ≡ Some o) is.objects there)) in
      let stand = all_stand is.steps 0 most_mended bytes (omega arith) is.reading read.f read.inside in
      let got = get_mapped (record_in found) i.objects at_place.0 (id, at_place.1.object) at_place.1.there in
      let same : Some r ≡ Some (record_in found (id, at_place.1.object)) =
      sym at_place.2 ∙ ap (λ (l : List ObjectRecord). slice_get l at_place.0) is.records ∙ got in
      let place : r.at ≡ or_zero (last_at id found) = ap (λ (x : Option ObjectRecord). (unsome r x).at) same in
      subst (StandsAt (record_of id o) whole) (read.at_is ∙ sym place)
      (subst (λ (n : ℕ). StandsAt (record_of n o) whole read.f.at) read.id_is (subst (λ (x : Seen). StandsAt (record_of read.f.id x) whole read.f.at) read.object_is stand))

  macro_stands : (id : ℕ) (o : Seen) (at : ℕ) → object_at i.objects id ≡ Some o → is_macro (kind_of o) ≡ true → IsOffset i (Some (places.Command id 0)) at
      → StandsAt (macro_bytes o) whole at
  macro_stands id o at there macro offset =
      let parts = macro_parts id o macro in
      within_record parts.0 (macro_bytes o) (record_of id o) whole offset.0.at at (record_stands id o offset.0 there offset.1) parts.1
      (omega (arith, offset.2, parts.2))

pub in_bytes : RecordsAreInPlace
in_bytes bytes i is = record {
  mended = whole bytes i is;
  are_mended = record {
    long = length_proper 0 is.steps bytes;
    same = λ k within. elim (all_stay is.steps 0 k bytes) as (λ _. (slice_index (whole bytes i is) k ≡ slice_index bytes k) ⊎ IsInWrongField i.findings.items k) [
      | inl same ↦ inl same
      | inr field ↦ inr (field_told bytes i is k field)
    ];
  };
  records = record_stands bytes i is;
  macros = macro_stands bytes i is;
}
