-- A path to an element follows a chain of inclusions.
use Rattle.std.proofs.Common.{sym, ◌≡◌, ◌≤◌, ℕ, suc, Bool, true, false, eqb, List, [], ◌∷◌, length, Option, Some, None, refl, ap, subst, ◌∙◌, arith, ◌++◌}
use Rattle.std.proofs.lemmas.Option.{same_Some}
use Rattle.std.specs.Prelude.{Contains, IsTrue, slice_get}
use Rattle.std.specs.List.{AllByRecursion}
use Rattle.std.specs.Option.{option_map}
use Rattle.std.specs.FinMap as finite
use Rattle.vt_kinds.specs.declared.variables.ObjectPointer.{ObjectPointer}
use Rattle.vt_kinds.specs.declared.entries.Child.{Child}
use Rattle.vt_kinds.specs.declared.kind.Kind.TheVariants as kinds
use Rattle.vt_kinds.specs.declared.object.Object.TheVariants as objects
use Rattle.vt_kinds.specs.declared.place.Place.TheVariants as places
use Rattle.vt_kinds.specs.Ids.{null_id}
use Rattle.vt_kinds.specs.Records.{Seen}
use Rattle.vt_kinds.specs.References.{slots_of}
use Rattle.vt_stores.specs.Stores.{ObjectMap}
use Rattle.vt_chains.specs.Depths.{inclusions_of}
use Rattle.vt_chains.specs.Inclusions.{IsChain, included_by}
use Rattle.vt_chains.proofs.Elements.{Contains-nil, cons_case}
use Rattle.vt_shown.specs.ShownElements.{ids_in, keys_of, soft_key_mask_of, behind, resolves_to, is_element}
use Rattle.vt_effects.specs.Soundness.{IsSound, is_in_order}
use Rattle.vt_shown.proofs.DrawnElements.{listed_included, drawn_included, is_there, behind_case, included_at}
use Rattle.vt_layout.specs.declared.element.Element.{Element}
use Rattle.vt_layout.specs.declared.element.Position.{Position}
use Rattle.vt_layout.specs.Drawings.{origin, entered, along, at_path, entries_in, mask_entries, key_entries, IsChained, PathsAreChained, Sticks, led_through, through, passed_below, passed}
use Rattle.vt_layout.proofs.ShownAreDrawn.{names_of, names_of_keys, entered_entry, name_of}

-- a chain of at least `least` inclusions from one object to another
record IsWay (store : ObjectMap) (from : ℕ) (rest : List ℕ) (least to : ℕ) : Type 0 where
  is : IsChain (inclusions_of store) (from ∷ rest)
  last : slice_get (from ∷ rest) (length rest) ≡ Some to
  each : least ≤ length rest

-- an object includes all IDs of a list
abbrev AreIncluded : ObjectMap → ℕ → List ℕ → Type 0
AreIncluded store id names = (name : ℕ) → eqb name null_id ≡ false → Contains names name → Contains (included_by (finite.get store id)) name

value_is : (value next : ℕ) (o : Option Seen) → option_map (λ x. value) o ≡ Some next → value ≡ next
value_is value next None is = absurd cc
value_is value next (Some x) is = same_Some value next is

-- a pointer is no element
no_pointer : (store : ObjectMap) (next : ℕ) (p : ObjectPointer) → finite.get store next ≡ Some (objects.ObjectPointer p) → IsTrue (is_element (finite.get store next)) → ⊥
no_pointer store next p at shows = let never = subst (λ (o : Option Seen). IsTrue (is_element o)) at shows in absurd cc

-- a chain with one more element in front
way_more : (store : ObjectMap) (id name next : ℕ) (rest : List ℕ) (least to : ℕ) → finite.get store null_id ≡ None → Contains (inclusions_of store id) name → resolves_to store name ≡ Some next
    → IsTrue (is_element (finite.get store next)) → IsWay store next rest least to → IsWay store id (led_through name (finite.get store name) ++ rest) (suc least) to
way_more store id name next rest least to null first stands shows way = by (finite.get store name) refl stands
  where
    by : (o : Option Seen) → finite.get store name ≡ o → behind store name o ≡ Some next → IsWay store id (led_through name o ++ rest) (suc least) to
    by None at is = absurd cc
    by (Some (objects.ObjectPointer p)) at is =
        let within = behind_case (Contains (included_by (Some (objects.ObjectPointer p))) next) store name next (Some (objects.ObjectPointer p)) null is
        (λ same. absurd (no_pointer store next p (ap (finite.get store) (sym same) ∙ at) shows)) (λ h. h) in
        let value = value_is p.value next (finite.get store p.value) is in
        let moved = subst (λ (k : ℕ). IsWay store k rest least to) (sym value) way in
        let le = moved.each in record {
          is = (
            first,
            (
              included_at store name p.value (subst (λ (k : ℕ). Contains (included_by (finite.get store name)) k) (sym value) (subst (λ (o : Option Seen). Contains (included_by o) next) (sym at) within)),
              moved.is,
            ),
          );
          last = moved.last;
          each = omega (arith, le);
        }
    by (Some _) at is =
        let moved = subst (λ (k : ℕ). IsWay store k rest least to) (sym (same_Some name next is)) way in
        let le = moved.each in
        record { is = (first, moved.is); last = moved.last; each = omega (arith, le) }

-- the entry at an index of an included list makes the chain longer
way_step : (store : ObjectMap) (id : ℕ) (entries : List Child) (from : Position) (place : ℕ) (next : Element) (rest : List ℕ) (least to : ℕ) → finite.get store null_id ≡ None
    → AreIncluded store id (ids_in entries) → entered store from place (slice_get entries place) ≡ Some next → IsWay store next.id rest least to
    → IsWay store id (through store (slice_get entries place) ++ rest) (suc least) to
way_step store id entries from place next rest least to null included is way =
    entered_entry (IsWay store id (through store (slice_get entries place) ++ rest) (suc least) to) store entries from place next is
    (λ entry there stands shows.
    subst (λ (e : Option Child). IsWay store id (through store e ++ rest) (suc least) to) (sym there)
    (way_more store id entry.id next.id rest least to null
    (included_at store id entry.id (included entry.id (is_there store entry.id next.id (finite.get store entry.id) refl stands null) (name_of entries place entry there)))
    stands shows way))

drawn_are_included : (store : ObjectMap) (id : ℕ) → AreIncluded store id (ids_in (entries_in store (finite.get store id)))
drawn_are_included store id name there h =
    drawn_included store (finite.get store id) name there (subst (λ (names : List ℕ). Contains names name) (names_of store (finite.get store id)) h)

keys_are_included : (store : ObjectMap) (mask : ℕ) → AreIncluded store (soft_key_mask_of (finite.get store mask)) (ids_in (key_entries store mask))
keys_are_included store mask name there h =
    among (finite.get store (soft_key_mask_of (finite.get store mask))) (subst (λ (names : List ℕ). Contains names name) (names_of_keys store mask) h)
  where
    among : (o : Option Seen) → Contains (keys_of o) name → Contains (included_by o) name
    among (Some (objects.SoftKeyMask o)) h = listed_included kinds.SoftKeyMask places.Key 0 o.keys name (λ i. refl) there h
    among _ h = absurd (Contains-nil name h)

way_along : (store : ObjectMap) (path : List ℕ) (first e : Element) → finite.get store null_id ≡ None → along store path (Some first) ≡ Some e
    → IsWay store first.id (passed_below store path (Some first)) (length path) e.id
way_along store [] first e null leads = record {
  is = tt;
  last = ap (λ (k : Element). Some k.id) (same_Some first e leads);
  each = omega arith;
}
way_along store (place ∷ path) first e null leads =
    by (entered store first.at place (slice_get (entries_in store (finite.get store first.id)) place)) refl leads (λ next. way_along store path next e null)
  where
    by : (o : Option Element) → entered store first.at place (slice_get (entries_in store (finite.get store first.id)) place) ≡ o → along store path o ≡ Some e
        → ((next : Element) → along store path (Some next) ≡ Some e → IsWay store next.id (passed_below store path (Some next)) (length path) e.id)
        → IsWay store first.id (through store (slice_get (entries_in store (finite.get store first.id)) place) ++ passed_below store path o) (suc (length path)) e.id
    by None is none rest = absurd cc
    by (Some next) is leads rest =
        way_step store first.id (entries_in store (finite.get store first.id)) first.at place next (passed_below store path (Some next)) (length path) e.id null
        (drawn_are_included store first.id) is (rest next leads)

way_of : (store : ObjectMap) (id : ℕ) (entries : List Child) (path : List ℕ) (e : Element) → finite.get store null_id ≡ None → AreIncluded store id (ids_in entries)
    → at_path store entries origin path ≡ Some e → IsWay store id (passed store entries path) (length path) e.id
way_of store id entries [] e null included leads = absurd cc
way_of store id entries (place ∷ path) e null included leads = by (entered store origin place (slice_get entries place)) refl leads
  where
    by : (o : Option Element) → entered store origin place (slice_get entries place) ≡ o → along store path o ≡ Some e
        → IsWay store id (through store (slice_get entries place) ++ passed_below store path o) (suc (length path)) e.id
    by None is none = absurd cc
    by (Some first) is rest =
        way_step store id entries origin place first (passed_below store path (Some first)) (length path) e.id null included is (way_along store path first e null rest)

chained : (store : ObjectMap) (id : ℕ) (rest : List ℕ) (least to : ℕ) → IsSound store → IsWay store id rest least to → IsChained store id rest to
chained store id rest least to sound way =
    let short = sound.shallow (id ∷ rest) way.is in
    record { is = way.is; last = way.last; short = omega (arith, short) }

way_in_mask : (store : ObjectMap) (mask : ℕ) (path : List ℕ) (e : Element) → finite.get store null_id ≡ None → at_path store (mask_entries store mask) origin path ≡ Some e
    → IsWay store mask (passed store (mask_entries store mask) path) (length path) e.id
way_in_mask store mask path e null leads = way_of store mask (mask_entries store mask) path e null (drawn_are_included store mask) leads

way_of_keys : (store : ObjectMap) (mask : ℕ) (path : List ℕ) (e : Element) → finite.get store null_id ≡ None → at_path store (key_entries store mask) origin path ≡ Some e
    → IsWay store (soft_key_mask_of (finite.get store mask)) (passed store (key_entries store mask) path) (length path) e.id
way_of_keys store mask path e null leads = way_of store (soft_key_mask_of (finite.get store mask)) (key_entries store mask) path e null (keys_are_included store mask) leads

pub paths_chained : PathsAreChained
paths_chained = record {
  in_mask = λ store mask path e sound null leads. chained store mask (passed store (mask_entries store mask) path) (length path) e.id sound (way_in_mask store mask path e null leads);
  of_keys = λ store mask path e sound null leads.
      chained store (soft_key_mask_of (finite.get store mask)) (passed store (key_entries store mask) path) (length path) e.id sound (way_of_keys store mask path e null leads);
}

-- no path is longer than the longest chain
short_way : (store : ObjectMap) (id : ℕ) (rest : List ℕ) (least to : ℕ) → IsSound store → IsWay store id rest least to → least ≤ 32
short_way store id rest least to sound way = let short = sound.shallow (id ∷ rest) way.is in let each = way.each in omega (arith, each, short)

pub short_in_mask : (store : ObjectMap) (mask : ℕ) (path : List ℕ) (e : Element) → IsSound store → finite.get store null_id ≡ None
    → at_path store (mask_entries store mask) origin path ≡ Some e → length path ≤ 32
short_in_mask store mask path e sound null leads = short_way store mask (passed store (mask_entries store mask) path) (length path) e.id sound (way_in_mask store mask path e null leads)

pub short_of_keys : (store : ObjectMap) (mask : ℕ) (path : List ℕ) (e : Element) → IsSound store → finite.get store null_id ≡ None
    → at_path store (key_entries store mask) origin path ≡ Some e → length path ≤ 32
short_of_keys store mask path e sound null leads =
    short_way store (soft_key_mask_of (finite.get store mask)) (passed store (key_entries store mask) path) (length path) e.id sound (way_of_keys store mask path e null leads)

-- ---- references of the objects that a drawing meets

all_among : {A : Type 0} (P : A → Type 0) (xs : List A) (x : A) → AllByRecursion P xs → Contains xs x → P x
all_among P [] x all h = absurd (Contains-nil x h)
all_among P (y ∷ xs) x all h = cons_case (P x) y x xs h (λ same. subst P same all.0) (all_among P xs x all.1)

pub never_sticks : (store : ObjectMap) (mask : ℕ) → IsSound store → Sticks store mask → ⊥
never_sticks store mask sound sticks =
    let right = all_among (λ slot. IsTrue (is_in_order store slot)) (slots_of sticks.object) sticks.slot (sound.slots sticks.id sticks.object sticks.there) sticks.among in
    let wrong = sticks.wrong in
    absurd (no_truth (is_in_order store sticks.slot) right wrong)
  where
    no_truth : (b : Bool) → IsTrue b → b ≡ false → ⊥
    no_truth true right wrong = cc
    no_truth false right wrong = cc
