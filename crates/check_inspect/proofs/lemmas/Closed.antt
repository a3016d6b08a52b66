-- Objects with an object for each missing one: the inclusions are the same, and all included objects exist.
use Rattle.std.proofs.Common.{◌≡◌, ◌≢◌, ℕ, ◌<◌, Bool, true, false, cond, not, eqb, List, [], ◌∷◌, ◌++◌, map, Option, Some, None, refl, sym, ap, ap₂, subst, ◌∙◌, arith, inl, inr}
use Rattle.std.proofs.lemmas.Bool.{ne_eqb, cases_eq, eq-eqb}
use Rattle.std.proofs.lemmas.Cmp.{nat_cmp_total}
use Rattle.std.proofs.lemmas.List.{append_assoc, append-nil}
use Rattle.std.proofs.lemmas.List.Elements.{Contains-append_left, Contains-append_right}
use Rattle.std.specs.Prelude.{Contains, is_some}
use Rattle.std.specs.Option.{option_map}
use Rattle.std.specs.List.{flat_map, IsDistinct, AllByRecursion}
use Rattle.std.specs.Ordering.{nat_cmp, eq_by_cmp}
use Rattle.std.specs.FinMap as finite
use Rattle.vt_kinds.specs.declared.kind.Kind.{Kind}
use Rattle.vt_kinds.specs.declared.slot.Slot.{Slot}
use Rattle.vt_kinds.specs.Ids.{null_id}
use Rattle.vt_kinds.specs.Records.{Seen, kind_of}
use Rattle.vt_kinds.specs.References.{slots_of}
use Rattle.vt_stores.specs.Shapes.{shape_of, kind_at}
use Rattle.vt_stores.specs.Stores.{Objects, AreNamed, ids, object_at, by_rising_id}
use Rattle.vt_stores.proofs.ObjectShapes.{kind_found}
use Rattle.vt_stores.proofs.SortedEntries.{both_true}
use Rattle.vt_chains.specs.Inclusions.{is_inclusion, included_by, included}
use Rattle.vt_chains.proofs.Elements.{Contains-nil, Contains-head, Contains-tail, cons_case, option_case}
use Rattle.vt_chains.proofs.InclusionsInStore.{entry_case, object_of, stands}
use Rattle.vt_chains.proofs.Slots.{included_in, slot_case}
use Rattle.vt_verify.specs.declared.reference.Test.TheVariants.{IsThere}
use Rattle.vt_verify.specs.Updates.{or_else}
use Rattle.vt_verify.proofs.lemmas.stores.UpdatedStore.{found_joined, named_more}
use Rattle.check_inspect.specs.declared.finding.ReferenceAt.{ReferenceAt}
use Rattle.check_inspect.specs.Missing.{ClosesObjects, AreMissingIds, empty_at}
use Rattle.check_inspect.specs.References.{passes_at, slot_at, slots_at, missing_at}
use Rattle.check_reading.proofs.lemmas.InForce.{same_test}
use Rattle.check_inspect.proofs.lemmas.Missing.{failing_fails, fails_among}

-- ---- missing objects are not there

none_kind : (k : Option Kind) → is_some k ≡ false → k ≡ None
none_kind None is = refl
none_kind (Some k) is = absurd cc

none_object : (o : Option Seen) → option_map kind_of o ≡ None → o ≡ None
none_object None is = refl
none_object (Some o) is = absurd cc

not_there : (null : Bool) (k : Option Kind) (b : Bool) → b ≡ false → cond b null (is_some k) ≡ false → k ≡ None
not_there null k true differs is = absurd cc
not_there null k false differs is = none_kind k is

below_differs : (id : ℕ) → id < null_id → eqb id null_id ≡ false
below_differs id lt = ne_eqb id null_id (λ same. absurd (omega (arith, same)))

pub absent : (objects : Objects) (missing : List ℕ) → AreMissingIds (missing_at objects) missing → (id : ℕ) → Contains missing id
    → (object_at objects id ≡ None) × (id < null_id)
absent objects missing are id inside =
    let from = are.only id inside in
    let r = from.1.0 in
    let lt : r.reference.id < null_id = subst (λ (k : ℕ). k < null_id) (sym from.1.2) from.0 in
    let fails = failing_fails (passes_at IsThere (shape_of objects)) (flat_map slots_at objects) r from.1.1 in
    let none = not_there r.reference.may_be_null (kind_at (shape_of objects) r.reference.id) (eqb r.reference.id null_id) (below_differs r.reference.id lt) fails in
    (ap (object_at objects) (sym from.1.2) ∙ none_object (object_at objects r.reference.id) (sym (kind_found objects r.reference.id) ∙ none), from.0)

-- ---- objects for missing IDs

empty_found : (q id : ℕ) (rest : List ℕ) → (q ≡ id → ⊥) → object_at (map empty_at rest) q ≡ None → object_at (map empty_at (id ∷ rest)) q ≡ None
empty_found q id rest apart none = ap (λ (b : Bool). cond b (Some (empty_at id).1) (object_at (map empty_at rest) q)) (same_test q id ∙ ne_eqb q id apart) ∙ none

or_nothing : {A : Type 0} (a b : Option A) → a ≡ None → b ≡ None → or_else a b ≡ None
or_nothing None b first second = second
or_nothing (Some x) b first second = absurd cc

apart_from : (id : ℕ) (ids : List ℕ) (q : ℕ) → AllByRecursion (λ y. eqb id y ≡ false) ids → Contains ids q → q ≡ id → ⊥
apart_from id [] q apart inside same = Contains-nil q inside
apart_from id (x ∷ ids) q apart inside same =
    cons_case ⊥ x q ids inside
    (λ here. let yes : eqb id x ≡ true = eq-eqb id x (sym (here ∙ same)) in let never : true ≡ false = sym yes ∙ apart.0 in absurd cc)
    (λ later. apart_from id ids q apart.1 later same)

pub named_empty : (es : Objects) (missing : List ℕ) → AreNamed es → IsDistinct eqb missing
    → ((id : ℕ) → Contains missing id → (object_at es id ≡ None) × (id < null_id)) → AreNamed (es ++ map empty_at missing)
unfolding IsDistinct
named_empty es [] named distinct each = subst AreNamed (sym (append-nil es)) named
named_empty es (id ∷ missing) named distinct each =
    let here = each id (Contains-head id missing) in
    subst AreNamed (append_assoc es (empty_at id ∷ []) (map empty_at missing))
    (named_empty (es ++ empty_at id ∷ []) missing (named_more es id (empty_at id).1 named here.0 here.1) distinct.1
    (λ q inside.
    let there = each q (Contains-tail id q missing inside) in (
      found_joined es (empty_at id ∷ []) q
          ∙ or_nothing (object_at es q) (object_at (empty_at id ∷ []) q) there.0 (empty_found q id [] (apart_from id missing q distinct.0 inside) refl),
      there.1,
    )))

-- ---- lookups in the closed store

pub looks_closed : (objects : Objects) (missing : List ℕ) (q : ℕ)
    → object_at (by_rising_id (objects ++ map empty_at missing)) q ≡ or_else (object_at objects q) (object_at (map empty_at missing) q)
unfolding by_rising_id
looks_closed objects missing q =
    let all = objects ++ map empty_at missing in
    sym (finite.get-entries (finite.from_entries {R = nat_cmp} all) q) ∙ finite.get-from_entries nat_cmp_total all q ∙ found_joined objects (map empty_at missing) q

nothing_case : (id : ℕ) (rest : Option Seen) (b : Bool) → included_by rest ≡ [] → included_by (cond b (Some (empty_at id).1) rest) ≡ []
nothing_case id rest true nothing = refl
nothing_case id rest false nothing = nothing

includes_nothing : (missing : List ℕ) (q : ℕ) → included_by (object_at (map empty_at missing) q) ≡ []
includes_nothing [] q = refl
includes_nothing (id ∷ missing) q = nothing_case id (object_at (map empty_at missing) q) (eq_by_cmp nat_cmp q id) (includes_nothing missing q)

same_case : (o rest : Option Seen) → included_by rest ≡ [] → included_by (or_else o rest) ≡ included_by o
same_case None rest nothing = nothing
same_case (Some o) rest nothing = refl

pub same_included : (objects : Objects) (missing : List ℕ) (id : ℕ) → included (by_rising_id (objects ++ map empty_at missing)) id ≡ included objects id
same_included objects missing id =
    ap included_by (looks_closed objects missing id) ∙ same_case (object_at objects id) (object_at (map empty_at missing) id) (includes_nothing missing id)

-- ---- an included object that is not there is missing

module _ (all : Objects) (next : ℕ) (nowhere : object_at all next ≡ None) where
  fails_at : (parent : ℕ) (s : Slot) → not (eqb s.id null_id) ≡ true → s.id ≡ next → passes_at IsThere (shape_of all) (slot_at parent s) ≡ false
  fails_at parent s named same =
      let kind : kind_at (shape_of all) s.id ≡ None = ap (kind_at (shape_of all)) same ∙ kind_found all next ∙ ap (option_map kind_of) nowhere in
      one (eqb s.id null_id) (kind_at (shape_of all) s.id) named kind
    where
      one : (b : Bool) (k : Option Kind) → not b ≡ true → k ≡ None → cond b s.null (is_some k) ≡ false
      one true k named none = absurd cc
      one false k named none = ap is_some none

  in_slots : (parent : ℕ) (slots : List Slot) → Contains (included_in slots) next
      → (r : ReferenceAt) × Contains (map (slot_at parent) slots) r × (passes_at IsThere (shape_of all) r ≡ false) × (r.reference.id ≡ next) × (r.reference.id ≢ null_id)
  in_slots parent [] h = absurd (Contains-nil next h)
  in_slots parent (s ∷ slots) h =
      slot_case ((r : ReferenceAt) × Contains (map (slot_at parent) (s ∷ slots)) r × (passes_at IsThere (shape_of all) r ≡ false) × (r.reference.id ≡ next) × (r.reference.id ≢ null_id))
      s slots next h
      (λ in_it same.
      let named = (both_true (is_inclusion s.place) (not (eqb s.id null_id)) in_it).1 in (
        slot_at parent s,
        Contains-head (slot_at parent s) (map (slot_at parent) slots),
        fails_at parent s named same,
        same,
        λ null. let yes : eqb s.id null_id ≡ true = eq-eqb s.id null_id null in let never : not true ≡ true = ap not (sym yes) ∙ named in absurd cc,
      ))
      (λ rest. let more = in_slots parent slots rest in (more.0, Contains-tail (slot_at parent s) more.0 (map (slot_at parent) slots) more.1, more.2, more.3, more.4))

  in_objects : (objects : Objects) (id : ℕ) (o : Seen) → object_at objects id ≡ Some o → Contains (included_in (slots_of o)) next
      → (r : ReferenceAt) × Contains (flat_map slots_at objects) r × (passes_at IsThere (shape_of all) r ≡ false) × (r.reference.id ≡ next) × (r.reference.id ≢ null_id)
  in_objects [] id o is h = absurd cc
  in_objects (e ∷ objects) id o is h =
      entry_case ((r : ReferenceAt) × Contains (flat_map slots_at (e ∷ objects)) r × (passes_at IsThere (shape_of all) r ≡ false) × (r.reference.id ≡ next) × (r.reference.id ≢ null_id))
      e objects id o is
      (λ same is_o.
      let found = in_slots e.0 (slots_of e.1) (subst (λ (q : Seen). Contains (included_in (slots_of q)) next) (sym is_o) h) in
      (found.0, Contains-append_left (slots_at e) (flat_map slots_at objects) found.0 found.1, found.2, found.3, found.4))
      (λ rest. let found = in_objects objects id o rest h in
      (found.0, Contains-append_right (slots_at e) (flat_map slots_at objects) found.0 found.1, found.2, found.3, found.4))

empty_there : (missing : List ℕ) (q : ℕ) → Contains missing q → (o : Seen) × (object_at (map empty_at missing) q ≡ Some o)
empty_there [] q inside = absurd (Contains-nil q inside)
empty_there (id ∷ missing) q inside =
    elim (cases_eq q id) as (λ _. (o : Seen) × (object_at (map empty_at (id ∷ missing)) q ≡ Some o)) [
      | inl same ↦ ((empty_at id).1, ap (λ (b : Bool). cond b (Some (empty_at id).1) (object_at (map empty_at missing) q)) (same_test q id ∙ eq-eqb q id same))
      | inr apart ↦
          let rest = cons_case ((o : Seen) × (object_at (map empty_at missing) q ≡ Some o)) id q missing inside (λ here. absurd (apart (sym here))) (empty_there missing q) in
          (rest.0, ap (λ (b : Bool). cond b (Some (empty_at id).1) (object_at (map empty_at missing) q)) (same_test q id ∙ ne_eqb q id apart) ∙ rest.1)
    ]

module _ (objects : Objects) (missing : List ℕ) (are : AreMissingIds (missing_at objects) missing) where
  included_there : (id other : ℕ) → Contains (included objects id) other → (o : Seen) × (object_at (by_rising_id (objects ++ map empty_at missing)) other ≡ Some o)
  included_there id other h =
      option_case ((o : Seen) × (object_at (by_rising_id (objects ++ map empty_at missing)) other ≡ Some o)) (object_at objects other)
      (λ none.
      let o = object_of objects id other h in
      let found = in_objects objects other none objects id o.0 o.1 (subst (λ (q : Option Seen). Contains (included_by q) other) o.1 h) in
      let id_in : Contains missing other =
      subst (Contains missing) found.3 (are.all found.0 (fails_among (passes_at IsThere (shape_of objects)) (flat_map slots_at objects) found.0 found.2 found.1) found.4) in
      let there = empty_there missing other id_in in
      (there.0, looks_closed objects missing other ∙ ap₂ (λ (a b : Option Seen). or_else a b) none there.1))
      (λ o some. (o, looks_closed objects missing other ∙ ap (λ (a : Option Seen). or_else a (object_at (map empty_at missing) other)) some))

  pub closes : ClosesObjects objects (by_rising_id (objects ++ map empty_at missing))
  closes = record {
    same = same_included objects missing;
    there = λ id other h.
        let there = included_there id other (subst (λ (l : List ℕ). Contains l other) (same_included objects missing id) h) in
        stands (by_rising_id (objects ++ map empty_at missing)) other there.0 there.1;
  }
