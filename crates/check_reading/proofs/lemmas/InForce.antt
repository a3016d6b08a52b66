-- The objects in force, collected from the last record to the first.
use Rattle.std.proofs.Common.{◌≡◌, ℕ, ◌<◌, Bool, true, false, cond, eqb, ◌||◌, List, [], ◌∷◌, ◌++◌, map, reverse, Option, Some, None, refl, sym, ap, ap₂, subst, ◌∙◌, inl, inr}
use Rattle.std.proofs.lemmas.Bool.{cases_eq, eqb-true, eq-eqb, ne_eqb}
use Rattle.std.proofs.lemmas.Cmp.{nat_cmp_total}
use Rattle.std.proofs.lemmas.List.{append_assoc, append-nil, map-append, reverse-append}
use Rattle.std.proofs.lemmas.List.Elements.{All-nil}
use Rattle.std.specs.Prelude.{is_some}
use Rattle.std.specs.List.{IsDistinct}
use Rattle.std.specs.Ordering.{nat_cmp, is_eq, eq_by_cmp}
use Rattle.std.specs.FinMap as finite
use Rattle.vt_kinds.specs.Ids.{null_id}
use Rattle.vt_kinds.specs.Records.{Seen, kind_of}
use Rattle.vt_stores.specs.Stores.{Objects, AreNamed, object_at, by_rising_id}
use Rattle.vt_stores.proofs.SortedEntries.{three, equal}
use Rattle.vt_stores.proofs.BinarySearch.{other_id}
use Rattle.vt_verify.specs.Updates.{or_else}
use Rattle.vt_verify.proofs.lemmas.stores.UpdatedStore.{found_joined, named_more}
use Rattle.check_reading.specs.declared.pool_reading.ReplacedRecord.{ReplacedRecord}
use Rattle.check_reading.specs.Readings.{FoundAt, entry_of, objects_of, later_or, last_at, replaced_by, replaced_in, NamesObjects}

-- two tests of equality
pub same_test : (q id : ℕ) → eq_by_cmp nat_cmp q id ≡ eqb q id
same_test q id = elim (cases_eq q id) [
  | inl same ↦ ap (λ (k : ℕ). is_eq (nat_cmp q k)) (sym same) ∙ ap is_eq (equal q) ∙ sym (eq-eqb q id same)
  | inr apart ↦ other_id id q (λ e. apart (sym e)) (three q id) ∙ sym (ne_eqb q id apart)
]

-- the entries, the last record first
abbrev pub latest : List FoundAt → Objects
latest found = map entry_of (reverse found)

-- ---- lookups

or_none : {A : Type 0} (o : Option A) → o ≡ or_else o None
or_none None = refl
or_none (Some x) = refl

some_or : {A : Type 0} (a b : Option A) → is_some (or_else a b) ≡ is_some a || is_some b
some_or None b = refl
some_or (Some x) b = refl

kept_some : {A : Type 0} (a b : Option A) → is_some a ≡ true → a ≡ or_else a b
kept_some None b is = absurd cc
kept_some (Some x) b is = refl

one_some : (b : Bool) (o : Seen) → is_some (cond b (Some o) (let none : Option Seen = None in none)) ≡ b
one_some true o = refl
one_some false o = refl

later_some : (found : Option ℕ) (same : Bool) (at : ℕ) → is_some (later_or found same at) ≡ is_some found || same
later_some None true at = refl
later_some None false at = refl
later_some (Some n) same at = refl

-- the lookup of one more record, before all others
pub latest_more : (f : FoundAt) (found : List FoundAt) (q : ℕ)
    → object_at (latest (f ∷ found)) q ≡ or_else (object_at (latest found) q) (object_at (entry_of f ∷ []) q)
latest_more f found q =
    ap (λ (es : Objects). object_at es q) (ap (map entry_of) (reverse-append (f ∷ []) found) ∙ map-append entry_of (reverse found) (f ∷ []))
    ∙ found_joined (latest found) (entry_of f ∷ []) q

-- an ID has an object where it has a last record
pub same_known : (found : List FoundAt) (q : ℕ) → is_some (object_at (latest found) q) ≡ is_some (last_at q found)
same_known [] q = refl
same_known (f ∷ found) q =
    ap is_some (latest_more f found q)
    ∙ some_or (object_at (latest found) q) (object_at (entry_of f ∷ []) q)
    ∙ ap₂ (λ (a b : Bool). a || b) (same_known found q) (one_some (eq_by_cmp nat_cmp q f.id) f.object ∙ same_test q f.id)
    ∙ sym (later_some (last_at q found) (eqb q f.id) f.at)

-- ---- the objects collected so far

-- All records are some that are left and then some that are done.
pub record IsCollecting (all left : List FoundAt) (entries : Objects) (places : ℕ → Option ℕ) (replaced : List ReplacedRecord) : Type 0 where
  pub done : List FoundAt
  pub parts : all ≡ left ++ done
  pub named : AreNamed entries
  pub looks : (q : ℕ) → object_at entries q ≡ object_at (latest done) q
  pub places_are : (q : ℕ) → places q ≡ last_at q done
  pub replaced_are : reverse replaced ≡ replaced_in done

none_named : AreNamed []
unfolding IsDistinct
none_named = record { distinct = tt; named = All-nil (λ (id : ℕ). id < null_id) }

pub collecting_begins : (all : List FoundAt) (entries : Objects) (places : ℕ → Option ℕ) (replaced : List ReplacedRecord) → entries ≡ []
    → ((q : ℕ) → places q ≡ None) → replaced ≡ [] → IsCollecting all all entries places replaced
collecting_begins all entries places replaced empty none nothing = record {
  done = [];
  parts = sym (append-nil all);
  named = subst AreNamed (sym empty) none_named;
  looks = λ q. ap (λ (es : Objects). object_at es q) empty;
  places_are = none;
  replaced_are = ap reverse nothing;
}

-- the ID of a record among others
pub named_among : (less done all : List FoundAt) (f : FoundAt) → NamesObjects all → all ≡ less ++ f ∷ done → f.id < null_id
named_among less done all f named is = in_parts less (subst NamesObjects is named)
  where
    in_parts : (less : List FoundAt) → NamesObjects (less ++ f ∷ done) → f.id < null_id
    in_parts [] named = named.0
    in_parts (g ∷ less) named = in_parts less named.1

later_kept : (found : Option ℕ) (same : Bool) (at : ℕ) → (same ≡ true → is_some found ≡ true) → found ≡ later_or found same at
later_kept None true at known = absurd (let never = known refl in cc)
later_kept None false at known = refl
later_kept (Some n) same at known = refl

kept_by : (found : Option Seen) (same : Bool) (o : Seen) → (same ≡ true → is_some found ≡ true) → found ≡ or_else found (cond same (Some o) None)
kept_by found true o known = kept_some found (Some o) (known refl)
kept_by found false o known = or_none found

some_of : {A : Type 0} (o : Option A) (x : A) → o ≡ Some x → is_some o ≡ true
some_of o x is = ap is_some is

no_object : (o : Option Seen) → is_some o ≡ false → o ≡ None
no_object None is = refl
no_object (Some x) is = absurd cc

swapped : (a b : ℕ) → eqb a b ≡ eqb b a
swapped a b = elim (cases_eq a b) [
  | inl same ↦ eq-eqb a b same ∙ sym (eq-eqb b a (sym same))
  | inr apart ↦ ne_eqb a b apart ∙ sym (ne_eqb b a (λ e. apart (sym e)))
]

new_case : (found : Option ℕ) (same : Bool) (at : ℕ) → (same ≡ true → found ≡ None) → cond same (Some at) found ≡ later_or found same at
new_case None true at none = refl
new_case None false at none = refl
new_case (Some n) true at none = absurd (let never = none refl in cc)
new_case (Some n) false at none = refl

module _ (all left less : List FoundAt) (f : FoundAt) (entries : Objects) (places : ℕ → Option ℕ) (replaced : List ReplacedRecord)
    (is : IsCollecting all left entries places replaced) (last : left ≡ less ++ f ∷ []) where
  parts_more : all ≡ less ++ f ∷ is.done
  parts_more = is.parts ∙ ap (λ l. l ++ is.done) last ∙ append_assoc less (f ∷ []) is.done

  -- a record that a later one replaces
  pub collects_replaced : (by : ℕ) (more : List ReplacedRecord) → places f.id ≡ Some by
      → more ≡ replaced ++ record { id = f.id; kind = kind_of f.object; at = f.at; by = by } ∷ [] → IsCollecting all less entries places more
  collects_replaced by more found made =
      let known : last_at f.id is.done ≡ Some by = sym (is.places_are f.id) ∙ found in
      let there : is_some (object_at (latest is.done) f.id) ≡ true = same_known is.done f.id ∙ some_of (last_at f.id is.done) by known in
      record {
        done = f ∷ is.done;
        parts = parts_more;
        named = is.named;
        looks = λ q. is.looks q
            ∙ kept_by (object_at (latest is.done) q) (eq_by_cmp nat_cmp q f.id) f.object
            (λ same. ap (λ (k : ℕ). is_some (object_at (latest is.done) k)) (eqb-true q f.id (sym (same_test q f.id) ∙ same)) ∙ there)
            ∙ sym (latest_more f is.done q);
        places_are = λ q. is.places_are q
            ∙ later_kept (last_at q is.done) (eqb q f.id) f.at
            (λ same. ap (λ (k : ℕ). is_some (last_at k is.done)) (eqb-true q f.id same) ∙ some_of (last_at f.id is.done) by known);
        replaced_are = ap reverse made
            ∙ reverse-append replaced (record { id = f.id; kind = kind_of f.object; at = f.at; by = by } ∷ [])
            ∙ ap (λ l. record { id = f.id; kind = kind_of f.object; at = f.at; by = by } ∷ l) is.replaced_are
            ∙ ap (λ (o : Option ℕ). replaced_by f o ++ replaced_in is.done) (sym known);
      }

  -- a record in force
  pub collects_object : (new : Objects) (now : ℕ → Option ℕ) → places f.id ≡ None → NamesObjects all → new ≡ entries ++ entry_of f ∷ []
      → ((q : ℕ) → now q ≡ cond (eqb f.id q) (Some f.at) (places q)) → IsCollecting all less new now replaced
  collects_object new now none names made becomes =
      let lt = named_among less is.done all f names parts_more in
      let unknown : last_at f.id is.done ≡ None = sym (is.places_are f.id) ∙ none in
      let absent : object_at entries f.id ≡ None =
      is.looks f.id ∙ no_object (object_at (latest is.done) f.id) (same_known is.done f.id ∙ ap is_some unknown) in
      record {
        done = f ∷ is.done;
        parts = parts_more;
        named = subst AreNamed (sym made) (named_more entries f.id f.object is.named absent lt);
        looks = λ q. ap (λ (es : Objects). object_at es q) made
            ∙ found_joined entries (entry_of f ∷ []) q
            ∙ ap (λ (o : Option Seen). or_else o (object_at (entry_of f ∷ []) q)) (is.looks q)
            ∙ sym (latest_more f is.done q);
        places_are = λ q. becomes q
            ∙ ap₂ (λ (b : Bool) (o : Option ℕ). cond b (Some f.at) o) (swapped f.id q) (is.places_are q)
            ∙ new_case (last_at q is.done) (eqb q f.id) f.at (λ same. ap (λ (k : ℕ). last_at k is.done) (eqb-true q f.id same) ∙ unknown);
        replaced_are = is.replaced_are ∙ ap (λ (o : Option ℕ). replaced_by f o ++ replaced_in is.done) (sym unknown);
      }

-- ---- all records are collected

pub collected_objects : (all left : List FoundAt) (entries : Objects) (places : ℕ → Option ℕ) (replaced : List ReplacedRecord) → IsCollecting all left entries places replaced → left ≡ []
    → by_rising_id entries ≡ objects_of all
unfolding by_rising_id
collected_objects all left entries places replaced is none =
    let same : finite.from_entries {R = nat_cmp} entries ≡ finite.from_entries (latest is.done) =
    finite.same_map nat_cmp_total finite.nat_cmp-IsAntisymmetric (finite.from_entries entries) (finite.from_entries (latest is.done))
    (λ q. finite.get-from_entries nat_cmp_total entries q ∙ is.looks q ∙ sym (finite.get-from_entries nat_cmp_total (latest is.done) q)) in
    ap finite.entries same ∙ ap (λ (found : List FoundAt). finite.entries (finite.from_entries {R = nat_cmp} (latest found))) (sym (is.parts ∙ ap (λ l. l ++ is.done) none))

pub collected_places : (all left : List FoundAt) (entries : Objects) (places : ℕ → Option ℕ) (replaced : List ReplacedRecord) → IsCollecting all left entries places replaced → left ≡ []
    → (q : ℕ) → places q ≡ last_at q all
collected_places all left entries places replaced is none q = is.places_are q ∙ ap (last_at q) (sym (is.parts ∙ ap (λ l. l ++ is.done) none))

pub collected_replaced : (all left : List FoundAt) (entries : Objects) (places : ℕ → Option ℕ) (replaced : List ReplacedRecord) → IsCollecting all left entries places replaced → left ≡ []
    → reverse replaced ≡ replaced_in all
collected_replaced all left entries places replaced is none = is.replaced_are ∙ ap replaced_in (sym (is.parts ∙ ap (λ l. l ++ is.done) none))
