-- The slots that a command writes are in order.
use Rattle.std.proofs.Common.{◌≡◌, ℕ, Bool, true, false, cond, ◌==◌, ◌&&◌, eqb, Option, Some, None, Result, Ok, refl, sym, ap, subst, ◌∙◌}
use Rattle.std.proofs.lemmas.Option.{same_Some}
use Rattle.std.specs.Prelude.{IsTrue}
use Rattle.std.specs.Option.{option_map}
use Rattle.std.specs.FinMap as finite
use Rattle.vt_kinds.specs.declared.kind.Kind.{Kind}
use Rattle.vt_kinds.specs.declared.kind.Kind.TheVariants as kinds
use Rattle.vt_kinds.specs.declared.kinds.Kinds.TheVariants as sets
use Rattle.vt_kinds.specs.declared.place.Place.{Place}
use Rattle.vt_kinds.specs.declared.place.Place.TheVariants as places
use Rattle.vt_kinds.specs.declared.object.Object.TheVariants as objects
use Rattle.vt_kinds.specs.Records.{Seen, kind_of}
use Rattle.vt_kinds.specs.References.{slot, allowed, may_be_null, is_member}
use Rattle.vt_stores.specs.Stores.{ObjectMap}
use Rattle.vt_effects.specs.Changes.{is_one_of, may_refer, change_item}
use Rattle.vt_effects.specs.Effects.{kind_in, pointer_value, value_drawn}
use Rattle.vt_effects.specs.Soundness.{value_fits, is_in_order}
use Rattle.vt_effects.proofs.lemmas.stores.OneChangedObject.{get_there, get_other, allows_stays, value_of}
use Rattle.vt_stores.proofs.SortedEntries.{true_both}

-- ---- pointers and their kind

pub pointer_kind : (o : Seen) (v : ℕ) → pointer_value (Some o) ≡ Some v → kind_of o ≡ kinds.ObjectPointer
pointer_kind (objects.ObjectPointer o) v is = refl
pointer_kind _ v is = absurd cc

pub kind_pointer : (o : Seen) → kind_of o ≡ kinds.ObjectPointer → pointer_value (Some o) ≡ None → ⊥
kind_pointer (objects.ObjectPointer o) kind none = absurd cc
kind_pointer _ kind none = absurd cc

found_kind : (o : Option Seen) (v : ℕ) → pointer_value o ≡ Some v → option_map kind_of o ≡ Some kinds.ObjectPointer
found_kind None v is = absurd cc
found_kind (Some o) v is = ap Some (pointer_kind o v is)

-- whether a pointer is allowed at a place
abbrev pub takes_pointers : Place → Bool
takes_pointers (places.Child index) = true
takes_pointers (places.Key index) = true
takes_pointers (places.Item index) = true
takes_pointers place = false

no_variable : (kind : Kind) → is_member (allowed kind places.Variable) kinds.ObjectPointer ≡ false
no_variable kinds.InputString = refl
no_variable _ = refl

no_pointer : (kind : Kind) (place : Place) → takes_pointers place ≡ false → is_member (allowed kind place) kinds.ObjectPointer ≡ false
no_pointer kind places.Variable other = no_variable kind
no_pointer kind _ other = cc

-- where pointers are not allowed, the object is no pointer
pub not_a_pointer : (m : ObjectMap) (kind : Kind) (place : Place) (id : ℕ) → takes_pointers place ≡ false → is_one_of (allowed kind place) (kind_in m id) ≡ true
    → (w : ℕ) → pointer_value (finite.get m id) ≡ Some w → ⊥
not_a_pointer m kind place id other one w is =
    let never : false ≡ true =
    sym (no_pointer kind place other) ∙ subst (λ (k : Option Kind). is_one_of (allowed kind place) k ≡ true) (found_kind (finite.get m id) w is) one in
    absurd cc

-- a slot is in order, if its ID is allowed and, for a pointer, the pointer's value too
pub written_in_order : (m : ObjectMap) (kind : Kind) (place : Place) (id : ℕ) → may_refer kind place id (kind_in m id) ≡ true
    → (is_one_of (allowed kind place) (kind_in m id) ≡ true → IsTrue (value_fits m (slot kind place id) (pointer_value (finite.get m id))))
    → IsTrue (is_in_order m (slot kind place id))
written_in_order m kind place id may value = by (id == 0xFFFF) may
  where
    by : (b : Bool) → cond b (may_be_null place) (is_one_of (allowed kind place) (kind_in m id)) ≡ true
        → IsTrue (cond b (may_be_null place) (is_one_of (allowed kind place) (kind_in m id) && value_fits m (slot kind place id) (pointer_value (finite.get m id))))
    by true is = is
    by false is = true_both _ _ is (value is)

pub plain_in_order : (m : ObjectMap) (kind : Kind) (place : Place) (id : ℕ) → takes_pointers place ≡ false → may_refer kind place id (kind_in m id) ≡ true
    → IsTrue (is_in_order m (slot kind place id))
plain_in_order m kind place id other may =
    written_in_order m kind place id may (λ one. value_of m (slot kind place id) (pointer_value (finite.get m id)) (λ w is. absurd (not_a_pointer m kind place id other one w is)))

-- ---- items of lists

pub list_changed : (kind_of_other : Option Kind) (index item : ℕ) (o new : Seen) → ◌≡◌ {A = Result Seen ℕ} (change_item kind_of_other index item o) (Ok new) → pointer_value (Some o) ≡ None
list_changed kind_of_other index item (objects.InputList o) new made = refl
list_changed kind_of_other index item _ new made = absurd cc

drawn : (m : ObjectMap) (w : ℕ) (v : Option ℕ) → v ≡ Some w → value_drawn m v ≡ true → cond (w == 0xFFFF) true (is_one_of sets.Drawn (kind_in m w)) ≡ true
drawn m w None is all = absurd cc
drawn m w (Some x) is all = subst (λ (y : ℕ). cond (y == 0xFFFF) true (is_one_of sets.Drawn (kind_in m y)) ≡ true) (same_Some x w is) all

-- an item fits a store with its list changed
pub item_in_order : (m : ObjectMap) (id : ℕ) (old new : Seen) (kind : Kind) (place item : ℕ) → finite.get m id ≡ Some old → kind_of new ≡ kind_of old
    → pointer_value (Some old) ≡ None → value_drawn m (pointer_value (finite.get m item)) ≡ true
    → may_refer kind (places.Item place) item (kind_in (finite.insert m id new) item) ≡ true
    → IsTrue (is_in_order (finite.insert m id new) (slot kind (places.Item place) item))
item_in_order m id old new kind place item at kinds_are none all may =
    written_in_order (finite.insert m id new) kind (places.Item place) item may (λ one. value (eqb item id) refl)
  where
    value : (b : Bool) → eqb item id ≡ b
        → IsTrue (value_fits (finite.insert m id new) (slot kind (places.Item place) item) (pointer_value (finite.get (finite.insert m id new) item)))
    value true e =
        subst (λ (o : Option Seen). IsTrue (value_fits (finite.insert m id new) (slot kind (places.Item place) item) (pointer_value o))) (sym (get_there m id new item e))
        (value_of (finite.insert m id new) (slot kind (places.Item place) item) (pointer_value (Some new))
        (λ w is. absurd (kind_pointer old (sym kinds_are ∙ pointer_kind new w is) none)))
    value false e =
        subst (λ (o : Option Seen). IsTrue (value_fits (finite.insert m id new) (slot kind (places.Item place) item) (pointer_value o))) (sym (get_other m id new item e))
        (value_of (finite.insert m id new) (slot kind (places.Item place) item) (pointer_value (finite.get m item))
        (λ w is. allows_stays m id old new (slot kind (places.Item place) item) w at kinds_are ∙ drawn m w (pointer_value (finite.get m item)) is all))
