-- All references of a store are in order after a command.
use Rattle.std.proofs.Common.{◌≡◌, ◌⊎◌, inl, inr, ℕ, zero, suc, Bool, true, false, ◌==◌, ◌||◌, not, eqb, Option, Some, Result, Ok, refl, sym, ap, subst, ◌∙◌}
use Rattle.std.proofs.lemmas.Option.{same_Some}
use Rattle.std.specs.Prelude.{IsTrue}
use Rattle.std.specs.List.{AllByRecursion}
use Rattle.std.specs.FinMap as finite
use Rattle.vt_kinds.specs.declared.kind.Kind.{Kind}
use Rattle.vt_kinds.specs.declared.kind.Kind.TheVariants as kinds
use Rattle.vt_kinds.specs.declared.place.Place.{Place}
use Rattle.vt_kinds.specs.declared.place.Place.TheVariants as places
use Rattle.vt_kinds.specs.declared.variables.ObjectPointer.{ObjectPointer}
use Rattle.vt_kinds.specs.declared.object.Object.TheVariants as objects
use Rattle.vt_commands.specs.declared.command.Command.{Command}
use Rattle.vt_commands.specs.declared.command.Command.TheVariants.{ChangeNumericValue, ChangeFillAttributes, ChangeActiveMask, ChangeSoftKeyMask, ChangeAttribute, ChangeListItem}
use Rattle.vt_kinds.specs.Records.{Seen, kind_of}
use Rattle.vt_kinds.specs.References.{slot, slots_of}
use Rattle.vt_stores.specs.Stores.{ObjectMap}
use Rattle.vt_commands.specs.Targets.{object_of}
use Rattle.vt_effects.specs.Fields.{low_word}
use Rattle.vt_effects.specs.Changes.{if_passed, may_refer, change_attribute, other_id, changed, writes}
use Rattle.vt_effects.specs.Effects.{kind_in, pointer_value, allows, all_slots, places_allow, value_drawn, chains_are_short, pointer_may, keeps_order, other_kind}
use Rattle.vt_effects.specs.Soundness.{is_in_order}
use Rattle.vt_effects.proofs.lemmas.stores.OneChangedObject.{first_of, get_there, get_other, kinds_stay}
use Rattle.vt_effects.proofs.lemmas.stores.ObjectBeforeAndAfter.{Made, kinds_same, slots_made}
use Rattle.vt_effects.proofs.lemmas.order.SlotsAfterChange.{Allowing, slots_stay, slots_among}
use Rattle.vt_effects.proofs.lemmas.order.WrittenSlots.{takes_pointers, pointer_kind, plain_in_order, list_changed, item_in_order}

-- ---- a pointer with a new value

pub passed_is : (test : Bool) (error : ℕ) (x new : Seen) → ◌≡◌ {A = Result Seen ℕ} (if_passed test error x) (Ok new) → x ≡ new
passed_is true error x new is = cc
passed_is false error x new is = absurd cc

pub attribute_of_pointer : (kind_of_other : Option Kind) (number value : ℕ) (p : ObjectPointer) (new : Seen)
    → ◌≡◌ {A = Result Seen ℕ} (change_attribute kind_of_other number value (objects.ObjectPointer p)) (Ok new) → objects.ObjectPointer (record p { value = low_word value }) ≡ new
attribute_of_pointer kind_of_other zero value p new made = absurd cc
attribute_of_pointer kind_of_other (suc zero) value p new made = passed_is _ _ (objects.ObjectPointer (record p { value = low_word value })) new made
attribute_of_pointer kind_of_other (suc (suc number)) value p new made = absurd cc

allowed_value : (m after : ObjectMap) (id it value : ℕ) (p : ObjectPointer) (new : Seen) → finite.get m id ≡ Some (objects.ObjectPointer p) → Some it ≡ Some id
    → objects.ObjectPointer (record p { value = low_word value }) ≡ new → pointer_may m it (low_word value) (pointer_value (finite.get m it)) after ≡ true
    → (w : ℕ) → pointer_value (Some new) ≡ Some w → places_allow m id w ≡ true
allowed_value m after id it value p new at for is kept w has =
    subst (λ (v : ℕ). places_allow m id v ≡ true) (same_Some (low_word value) w (ap (λ (o : Seen). pointer_value (Some o)) is ∙ has))
    (first_of (places_allow m id (low_word value)) (chains_are_short after)
    (subst (λ (o : Option Seen). pointer_may m id (low_word value) (pointer_value o) after ≡ true) at
    (subst (λ (i : ℕ). pointer_may m i (low_word value) (pointer_value (finite.get m i)) after ≡ true) (same_Some it id for) kept)))

new_value : (m after : ObjectMap) (id : ℕ) (p : ObjectPointer) (new : Seen) (command : Command) (kind_of_other : Option Kind) → finite.get m id ≡ Some (objects.ObjectPointer p)
    → object_of command ≡ Some id → ◌≡◌ {A = Result Seen ℕ} (changed command kind_of_other (objects.ObjectPointer p)) (Ok new) → keeps_order m command after ≡ true
    → (w : ℕ) → pointer_value (Some new) ≡ Some w → places_allow m id w ≡ true
new_value m after id p new (ChangeNumericValue it value) kind_of_other at for made kept w is = allowed_value m after id it value p new at for (passed_is _ _ _ new made) kept w is
new_value m after id p new (ChangeAttribute it number value) kind_of_other at for made kept w is =
    allowed_value m after id it value p new at for (attribute_of_pointer kind_of_other number value p new made) kept w is
new_value m after id p new _ kind_of_other at for made kept w is = absurd cc

-- all references to the pointer allow its new value
allowing : (m : ObjectMap) (id : ℕ) (old new : Seen) (command : Command) → Made m id old new command → Allowing m id new (all_slots m)
allowing m id (objects.ObjectPointer p) new command c w is =
    new_value m (finite.insert m id new) id p new command (other_kind m (other_id command)) c.at c.for c.made c.kept w is
allowing m id old new command c w is =
    let kind : kind_of old ≡ kinds.ObjectPointer = sym (kinds_same m id old new command c.change) ∙ pointer_kind new w is in
    absurd cc

-- ---- the written slots

-- a command that changes an item of a list
record IsItem (command : Command) (place : Place) : Type 0 where
  list : ℕ
  index : ℕ
  item : ℕ
  at : ℕ
  is : command ≡ ChangeListItem list index item
  stands : place ≡ places.Item at

write_case : (command : Command) (place : Place) (kind : Kind) → writes command place kind ≡ true → (takes_pointers place ≡ false) ⊎ IsItem command place
write_case (ChangeNumericValue id value) places.Value kind is = inl refl
write_case (ChangeFillAttributes id type colour pattern) places.Pattern kind is = inl refl
write_case (ChangeActiveMask set mask) places.ActiveMask kind is = inl refl
write_case (ChangeSoftKeyMask type mask keys) places.SoftKeyMask kind is = inl refl
write_case (ChangeListItem list index item) (places.Item at) kind is = inr (record { list = list; index = index; item = item; at = at; is = refl; stands = refl })
write_case (ChangeAttribute id number value) places.Value kind is = inl refl
write_case _ _ _ is = inl cc

item_made : (m : ObjectMap) (id : ℕ) (old new : Seen) (kind : Kind) (list index item at other : ℕ) → Made m id old new (ChangeListItem list index item)
    → Some item ≡ Some other → may_refer kind (places.Item at) other (kind_in (finite.insert m id new) other) ≡ true
    → IsTrue (is_in_order (finite.insert m id new) (slot kind (places.Item at) other))
item_made m id old new kind list index item at other c same may =
    item_in_order m id old new kind at other c.at (kinds_same m id old new (ChangeListItem list index item) c.change)
    (list_changed (other_kind m (Some item)) index item old new c.made)
    (subst (λ (i : ℕ). value_drawn m (pointer_value (finite.get m i)) ≡ true) (same_Some item other same)
    (first_of (value_drawn m (pointer_value (finite.get m item))) (chains_are_short (finite.insert m id new)) c.kept))
    may

written : (m : ObjectMap) (id : ℕ) (old new : Seen) (command : Command) → Made m id old new command → (place : Place) (other : ℕ) → other_id command ≡ Some other
    → writes command place (kind_of old) ≡ true → may_refer (kind_of old) place other (other_kind m (other_id command)) ≡ true
    → IsTrue (is_in_order (finite.insert m id new) (slot (kind_of old) place other))
written m id old new command c place other names writes may = by (write_case command place (kind_of old) writes)
  where
    stands : may_refer (kind_of old) place other (kind_in (finite.insert m id new) other) ≡ true
    stands =
        subst (λ (k : Option Kind). may_refer (kind_of old) place other k ≡ true)
        (ap (other_kind m) names ∙ sym (kinds_stay m id old new other c.at (kinds_same m id old new command c.change))) may

    item : (i : IsItem command place) → IsTrue (is_in_order (finite.insert m id new) (slot (kind_of old) place other))
    item i =
        subst (λ (p : Place). IsTrue (is_in_order (finite.insert m id new) (slot (kind_of old) p other))) (sym i.stands)
        (item_made m id old new (kind_of old) i.list i.index i.item i.at other (subst (Made m id old new) i.is c)
        (ap other_id (sym i.is) ∙ names)
        (subst (λ (p : Place). may_refer (kind_of old) p other (kind_in (finite.insert m id new) other) ≡ true) i.stands stands))

    by : (takes_pointers place ≡ false) ⊎ IsItem command place → IsTrue (is_in_order (finite.insert m id new) (slot (kind_of old) place other))
    by (inl plain) = plain_in_order (finite.insert m id new) (kind_of old) place other plain stands
    by (inr i) = item i

-- ---- all slots

slots_by : (m : ObjectMap) (id : ℕ) (old new : Seen) (command : Command) → Made m id old new command
    → ((q : ℕ) (x : Seen) → finite.get m q ≡ Some x → AllByRecursion (λ s. IsTrue (is_in_order m s)) (slots_of x))
    → (q : ℕ) (x : Seen) (b : Bool) → eqb q id ≡ b → finite.get (finite.insert m id new) q ≡ Some x
    → AllByRecursion (λ s. IsTrue (is_in_order (finite.insert m id new) s)) (slots_of x)
slots_by m id old new command c sound q x true e there =
    subst (λ (y : Seen). AllByRecursion (λ s. IsTrue (is_in_order (finite.insert m id new) s)) (slots_of y)) (same_Some new x (sym (get_there m id new q e) ∙ there))
    (slots_made _ m id old new command c.change
    (slots_stay m id old new (slots_of old) c.at (kinds_same m id old new command c.change)
    (λ w is. slots_among (λ s. not (s.id == id) || allows m s w) m id old c.at (allowing m id old new command c w is)) (sound id old c.at))
    (written m id old new command c))
slots_by m id old new command c sound q x false e there =
    let at : finite.get m q ≡ Some x = sym (get_other m id new q e) ∙ there in
    slots_stay m id old new (slots_of x) c.at (kinds_same m id old new command c.change)
    (λ w is. slots_among (λ s. not (s.id == id) || allows m s w) m q x at (allowing m id old new command c w is)) (sound q x at)

pub slots_in_order : (m : ObjectMap) (id : ℕ) (old new : Seen) (command : Command) → Made m id old new command
    → ((q : ℕ) (x : Seen) → finite.get m q ≡ Some x → AllByRecursion (λ s. IsTrue (is_in_order m s)) (slots_of x))
    → (q : ℕ) (x : Seen) → finite.get (finite.insert m id new) q ≡ Some x → AllByRecursion (λ s. IsTrue (is_in_order (finite.insert m id new) s)) (slots_of x)
slots_in_order m id old new command c sound q x there = slots_by m id old new command c sound q x (eqb q id) refl there
