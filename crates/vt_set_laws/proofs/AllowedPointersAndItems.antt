-- References in order allow a pointer's new value, and a list in order allows its new item.
use Rattle.std.proofs.Common.{◌≡◌, ◌<◌, ℕ, zero, suc, Bool, true, false, cond, ◌==◌, ◌&&◌, ◌||◌, not, eqb, List, [], ◌∷◌, length, set, Option, Some, None, refl, sym, ap, subst, ◌∙◌, arith}
use Rattle.std.proofs.lemmas.Bool.{eqb-true, eq-eqb}
use Rattle.std.proofs.lemmas.Option.{same_Some}
use Rattle.std.proofs.lemmas.List.Folds.{list_all-append}
use Rattle.std.specs.Prelude.{IsTrue, slice_get}
use Rattle.std.specs.List.{AllByRecursion, list_all, flat_map}
use Rattle.std.specs.Option.{option_map}
use Rattle.std.specs.FinMap as finite
use Rattle.vt_kinds.specs.declared.kind.Kind.{Kind}
use Rattle.vt_kinds.specs.declared.kind.Kind.TheVariants as kinds
use Rattle.vt_kinds.specs.declared.place.Place.TheVariants as places
use Rattle.vt_kinds.specs.declared.slot.Slot.{Slot}
use Rattle.vt_kinds.specs.declared.input_fields.InputList.{InputList}
use Rattle.vt_kinds.specs.declared.variables.ObjectPointer.{ObjectPointer}
use Rattle.vt_kinds.specs.declared.object.Object.TheVariants as objects
use Rattle.vt_kinds.specs.Ids.{null_id}
use Rattle.vt_kinds.specs.Records.{Seen, kind_of}
use Rattle.vt_kinds.specs.References.{slot, slots_listed, slots_of}
use Rattle.vt_stores.specs.Stores.{ObjectMap, Objects}
use Rattle.vt_stores.proofs.SortedEntries.{true_both}
use Rattle.vt_chains.proofs.IdIndices.{get_placed}
use Rattle.vt_effects.specs.Changes.{is_one_of}
use Rattle.vt_effects.specs.Effects.{kind_in, pointer_value, allows, places_allow, value_drawn}
use Rattle.vt_effects.specs.Soundness.{IsSound, value_fits, is_in_order}
use Rattle.vt_effects.proofs.lemmas.stores.OneChangedObject.{first_of, second_of, get_there, get_other, allows_stays}

-- the kind of a referenced object and the value of a referenced pointer
in_order_at : (m : ObjectMap) (s : Slot) (o : Seen) → finite.get m s.id ≡ Some o → (s.id ≡ null_id → ⊥) → IsTrue (is_in_order m s)
    → IsTrue (is_one_of s.kinds (Some (kind_of o)) && value_fits m s (pointer_value (Some o)))
in_order_at m s o at named is = by (eqb s.id null_id) refl is
  where
    by : (b : Bool) → eqb s.id null_id ≡ b → IsTrue (cond b s.null (is_one_of s.kinds (kind_in m s.id) && value_fits m s (pointer_value (finite.get m s.id))))
        → IsTrue (is_one_of s.kinds (Some (kind_of o)) && value_fits m s (pointer_value (Some o)))
    by true null is = absurd (named (eqb-true s.id null_id null))
    by false there is = subst (λ (f : Option Seen). IsTrue (is_one_of s.kinds (option_map kind_of f) && value_fits m s (pointer_value f))) at is

kind_at : (m : ObjectMap) (s : Slot) (o : Seen) → finite.get m s.id ≡ Some o → (s.id ≡ null_id → ⊥) → IsTrue (is_in_order m s)
    → IsTrue (is_one_of s.kinds (Some (kind_of o)))
kind_at m s o at named is = first_of (is_one_of s.kinds (Some (kind_of o))) (value_fits m s (pointer_value (Some o))) (in_order_at m s o at named is)

value_at : (m : ObjectMap) (s : Slot) (o : Seen) → finite.get m s.id ≡ Some o → (s.id ≡ null_id → ⊥) → IsTrue (is_in_order m s)
    → IsTrue (value_fits m s (pointer_value (Some o)))
value_at m s o at named is = second_of (is_one_of s.kinds (Some (kind_of o))) (value_fits m s (pointer_value (Some o))) (in_order_at m s o at named is)

-- an existing object's ID is not NULL
pub not_null : (m : ObjectMap) (id : ℕ) (o : Seen) → finite.get m null_id ≡ None → finite.get m id ≡ Some o → id ≡ null_id → ⊥
not_null m id o null at is =
    let never : None ≡ Some o = sym null ∙ ap (finite.get m) (sym is) ∙ at in
    absurd cc

-- ---- references to a pointer

abbrev with_value : ObjectPointer → ℕ → Seen
with_value p value = objects.ObjectPointer (record p { value = value })

abbrev allows_if_named : ObjectMap → ℕ → ℕ → Slot → Bool
allows_if_named m id value s = not (s.id == id) || allows m s value

-- a reference that is in order with the new value allows it
place_allows : (m : ObjectMap) (id value : ℕ) (p : ObjectPointer) → finite.get m null_id ≡ None → finite.get m id ≡ Some (objects.ObjectPointer p) → (s : Slot)
    → IsTrue (is_in_order (finite.insert m id (with_value p value)) s) → allows_if_named m id value s ≡ true
place_allows m id value p null at s is = by (eqb s.id id) refl
  where
    by : (b : Bool) → eqb s.id id ≡ b → (not b || allows m s value) ≡ true
    by false other = refl
    by true same =
        sym (allows_stays m id (objects.ObjectPointer p) (with_value p value) s value at refl)
        ∙ value_at (finite.insert m id (with_value p value)) s (with_value p value) (get_there m id (with_value p value) s.id same)
        (λ e. not_null m id (objects.ObjectPointer p) null at (sym (eqb-true s.id id same) ∙ e)) is

-- a pointer does not refer to itself
own_place_allows : (m : ObjectMap) (id value : ℕ) (p : ObjectPointer) → finite.get m null_id ≡ None → finite.get m id ≡ Some (objects.ObjectPointer p)
    → IsTrue (is_in_order m (slot kinds.ObjectPointer places.Value p.value)) → allows_if_named m id value (slot kinds.ObjectPointer places.Value p.value) ≡ true
own_place_allows m id value p null at is = by (eqb p.value id) refl
  where
    by : (b : Bool) → eqb p.value id ≡ b → (not b || allows m (slot kinds.ObjectPointer places.Value p.value) value) ≡ true
    by false other = refl
    by true same =
        let there : finite.get m p.value ≡ Some (objects.ObjectPointer p) = ap (finite.get m) (eqb-true p.value id same) ∙ at in
        let never : false ≡ true =
        kind_at m (slot kinds.ObjectPointer places.Value p.value) (objects.ObjectPointer p) there (not_null m p.value (objects.ObjectPointer p) null there) is in
        absurd cc

all_allow : (test : Slot → Bool) (P : Slot → Type 0) (slots : List Slot) → ((s : Slot) → P s → test s ≡ true) → AllByRecursion P slots → list_all test slots ≡ true
all_allow test P [] of all = refl
all_allow test P (s ∷ slots) of all = true_both (test s) (list_all test slots) (of s all.0) (all_allow test P slots of all.1)

object_allows : (m : ObjectMap) (id value : ℕ) (p : ObjectPointer) → finite.get m null_id ≡ None → finite.get m id ≡ Some (objects.ObjectPointer p) → IsSound m
    → IsSound (finite.insert m id (with_value p value)) → (q : ℕ) (o : Seen) → finite.get m q ≡ Some o → list_all (allows_if_named m id value) (slots_of o) ≡ true
object_allows m id value p null at sound after q o there = by (eqb q id) refl
  where
    by : (b : Bool) → eqb q id ≡ b → list_all (allows_if_named m id value) (slots_of o) ≡ true
    by true same =
        let is : objects.ObjectPointer p ≡ o = same_Some (objects.ObjectPointer p) o (sym at ∙ ap (finite.get m) (sym (eqb-true q id same)) ∙ there) in
        subst (λ (y : Seen). list_all (allows_if_named m id value) (slots_of y) ≡ true) is
        (all_allow (allows_if_named m id value) (λ s. allows_if_named m id value s ≡ true) (slots_of {B = List ℕ} (objects.ObjectPointer p)) (λ s e. e)
        (own_place_allows m id value p null at (IsSound.slots sound id (objects.ObjectPointer p) at).0, tt))
    by false other =
        all_allow (allows_if_named m id value) (λ s. IsTrue (is_in_order (finite.insert m id (with_value p value)) s)) (slots_of o) (place_allows m id value p null at)
        (IsSound.slots after q o (get_other m id (with_value p value) q other ∙ there))

-- a test holds for all slots, if it holds for the slots of each object
all_of_objects : (test : Slot → Bool) (es : Objects) → ((place : ℕ) (e : ℕ × Seen) → slice_get es place ≡ Some e → list_all test (slots_of e.1) ≡ true)
    → list_all test (flat_map (λ e. slots_of e.1) es) ≡ true
all_of_objects test [] each = refl
all_of_objects test (e ∷ es) each =
    list_all-append test (slots_of e.1) (flat_map (λ e. slots_of e.1) es)
    ∙ true_both (list_all test (slots_of e.1)) (list_all test (flat_map (λ e. slots_of e.1) es)) (each 0 e refl) (all_of_objects test es (λ place. each (suc place)))

pub places_allow_value : (m : ObjectMap) (id value : ℕ) (p : ObjectPointer) → finite.get m null_id ≡ None → finite.get m id ≡ Some (objects.ObjectPointer p)
    → IsSound m
    → IsSound (finite.insert m id (objects.ObjectPointer (record p { value = value }))) → places_allow m id value ≡ true
places_allow_value m id value p null at sound after =
    all_of_objects (allows_if_named m id value) (finite.entries m)
    (λ place e is. object_allows m id value p null at sound after e.0 e.1 (get_placed m place e.0 e.1 is))

-- ---- the items of a list

-- the slot of an item
item_in : (P : Slot → Type 0) (kind : Kind) (start index : ℕ) (items : List ℕ) (item : ℕ) → index < length items
    → AllByRecursion P (slots_listed kind places.Item start (set items index item)) → (at : ℕ) × P (slot kind (places.Item at) item)
item_in P kind start index [] item lt all = absurd (omega (arith, lt))
item_in P kind start zero (x ∷ items) item lt all = (start, all.0)
item_in P kind start (suc index) (x ∷ items) item lt all = item_in P kind (suc start) index items item (omega (arith, lt)) all.1

drawn_at : (m : ObjectMap) (list item place : ℕ) (old new : InputList) → finite.get m null_id ≡ None → finite.get m list ≡ Some (objects.InputList old)
    → IsTrue (is_in_order (finite.insert m list (objects.InputList new)) (slot kinds.InputList (places.Item place) item))
    → (o : Option Seen) → finite.get m item ≡ o → value_drawn m (pointer_value o) ≡ true
drawn_at m list item place old new null at is None there = refl
drawn_at m list item place old new null at is (Some (objects.ObjectPointer p)) there =
    sym (allows_stays m list (objects.InputList old) (objects.InputList new) (slot kinds.InputList (places.Item place) item) p.value at refl)
    ∙ value_at (finite.insert m list (objects.InputList new)) (slot kinds.InputList (places.Item place) item) (objects.ObjectPointer p)
    (get_other m list (objects.InputList new) item (other (eqb item list) refl) ∙ there) (not_null m item (objects.ObjectPointer p) null there) is
  where
    other : (b : Bool) → eqb item list ≡ b → eqb item list ≡ false
    other false differs = differs
    other true same =
        let never : Some (objects.ObjectPointer p) ≡ Some (objects.InputList old) = sym there ∙ ap (finite.get m) (eqb-true item list same) ∙ at in
        absurd cc
drawn_at m list item place old new null at is _ there = refl

pub item_drawn : (m : ObjectMap) (list index item : ℕ) (o : InputList) → finite.get m null_id ≡ None → finite.get m list ≡ Some (objects.InputList o)
    → index < length o.items
    → IsSound (finite.insert m list (objects.InputList (record o { items = set o.items index item }))) → value_drawn m (pointer_value (finite.get m item)) ≡ true
item_drawn m list index item o null at lt after =
    let ordered =
    item_in (λ s. IsTrue (is_in_order (finite.insert m list (objects.InputList (record o { items = set o.items index item }))) s)) kinds.InputList 0 index o.items item lt
    (IsSound.slots after list (objects.InputList (record o { items = set o.items index item }))
    (get_there m list (objects.InputList (record o { items = set o.items index item })) list (eq-eqb list list refl))).1 in
    drawn_at m list item ordered.0 o (record o { items = set o.items index item }) null at ordered.1 (finite.get m item) refl
