-- A command adds no inclusion to a store, except that of its other ID.
use Rattle.std.proofs.Common.{◌≡◌, ◌⊎◌, inl, inr, ⊎_elim, ℕ, Bool, true, false, cond, ◌==◌, not, eqb, List, [], ◌∷◌, map, Option, Some, None, is_some, refl, sym, ap, subst, ◌∙◌}
use Rattle.std.proofs.lemmas.Option.{same_Some}
use Rattle.std.proofs.lemmas.Bool.{eqb-true}
use Rattle.std.specs.Prelude.{Contains}
use Rattle.std.specs.Option.{option_map}
use Rattle.std.specs.List.{AllByRecursion}
use Rattle.std.specs.FinMap as finite
use Rattle.vt_kinds.specs.declared.kind.Kind.{Kind}
use Rattle.vt_kinds.specs.declared.kind.Kind.TheVariants as kinds
use Rattle.vt_kinds.specs.declared.kinds.Kinds.{Kinds}
use Rattle.vt_kinds.specs.declared.place.Place.{Place}
use Rattle.vt_kinds.specs.declared.place.Place.TheVariants as places
use Rattle.vt_kinds.specs.declared.slot.Slot.{Slot}
use Rattle.vt_commands.specs.declared.command.Command.{Command}
use Rattle.vt_commands.specs.declared.command.Command.TheVariants.{ChangeNumericValue, ChangeFillAttributes, ChangeActiveMask, ChangeSoftKeyMask, ChangeAttribute, ChangeListItem}
use Rattle.vt_kinds.specs.Records.{Seen, kind_of}
use Rattle.vt_kinds.specs.References.{slot, slots_of, allowed, may_be_null}
use Rattle.vt_stores.specs.Stores.{ObjectMap, Objects, ids}
use Rattle.vt_stores.specs.Shapes.{Fixed, shape_of}
use Rattle.vt_chains.specs.Inclusions.{is_inclusion, includes, included_by}
use Rattle.vt_chains.specs.Depths.{ids_of, inclusions_of}
use Rattle.vt_chains.proofs.Elements.{Contains-nil}
use Rattle.vt_chains.proofs.Slots.{included_in, in_first, in_more, slot_case}
use Rattle.vt_effects.specs.declared.replacements.Replacement.{Replacement}
use Rattle.vt_effects.specs.Changes.{is_one_of, may_refer, other_id, writes}
use Rattle.vt_effects.specs.Effects.{kind_in, pointer_value, other_kind}
use Rattle.vt_effects.specs.Soundness.{shape_in}
use Rattle.vt_effects.specs.Replacements.{replacement_by}
use Rattle.vt_effects.proofs.lemmas.stores.OneChangedObject.{first_of, second_of, get_there, get_other}
use Rattle.vt_effects.proofs.lemmas.stores.ObjectBeforeAndAfter.{Changed, slots_made}
use Rattle.vt_effects.proofs.lemmas.stores.IdReplacements.{unmapped, item_replaced}
use Rattle.vt_effects.proofs.lemmas.order.WrittenSlots.{kind_pointer}

-- if a goal holds for all included IDs, it holds for the ID of each slot that includes
all_include : (slots : List Slot) (goal : ℕ → Type 0) → ((x : ℕ) → Contains (included_in slots) x → goal x) → AllByRecursion (λ s. includes s ≡ true → goal s.id) slots
all_include [] goal of = tt
all_include (s ∷ slots) goal of = ((λ is. of s.id (in_first s slots is)), all_include slots goal (λ x h. of x (in_more s slots x h)))

each_included : (slots : List Slot) (goal : ℕ → Type 0) → AllByRecursion (λ s. includes s ≡ true → goal s.id) slots → (x : ℕ) → Contains (included_in slots) x → goal x
each_included [] goal all x h = absurd (Contains-nil x h)
each_included (s ∷ slots) goal all x h = slot_case (goal x) s slots x h (λ is same. subst goal same (all.0 is)) (each_included slots goal all.1 x)

-- `x` is an ID that the command makes the object include
pub record Adds (m : ObjectMap) (command : Command) (old : Seen) (x : ℕ) : Type 0 where
  pub place : Place
  pub written : writes command place (kind_of old) ≡ true
  pub inclusion : is_inclusion place ≡ true
  pub other : other_id command ≡ Some x
  pub there : is_some (kind_in m x) ≡ true

there_by : (null : Bool) (kinds : Kinds) (k : Option Kind) (b : Bool) → not b ≡ true → cond b null (is_one_of kinds k) ≡ true → is_some k ≡ true
there_by null kinds k true differs may = absurd cc
there_by null kinds None false differs may = absurd cc
there_by null kinds (Some k) false differs may = refl

adds : (m : ObjectMap) (command : Command) (old : Seen) (place : Place) (other : ℕ) → other_id command ≡ Some other → writes command place (kind_of old) ≡ true
    → may_refer (kind_of old) place other (other_kind m (other_id command)) ≡ true → includes (slot (kind_of old) place other) ≡ true → Adds m command old other
adds m command old place other names written may is =
    record {
      place = place;
      written = written;
      inclusion = first_of (is_inclusion place) (not (other == 0xFFFF)) is;
      other = names;
      there = subst (λ (k : Option Kind). is_some k ≡ true) (ap (other_kind m) names)
          (there_by (may_be_null place) (allowed (kind_of old) place) (other_kind m (other_id command)) (other == 0xFFFF)
          (second_of (is_inclusion place) (not (other == 0xFFFF)) is) may);
    }

included_after : (m : ObjectMap) (id : ℕ) (old new : Seen) (command : Command) → Changed m id old new command → (x : ℕ) → Contains (included_by (Some new)) x
    → Contains (included_by (Some old)) x ⊎ Adds m command old x
included_after m id old new command c x h =
    each_included (slots_of new) (λ (y : ℕ). Contains (included_by (Some old)) y ⊎ Adds m command old y)
    (slots_made _ m id old new command c
    (all_include (slots_of old) (λ (y : ℕ). Contains (included_by (Some old)) y ⊎ Adds m command old y) (λ y there. inl there))
    (λ place other names written may is. inr (adds m command old place other names written may is)))
    x h

pub inclusions_after : (m : ObjectMap) (id : ℕ) (old new : Seen) (command : Command) → Changed m id old new command → (q x : ℕ)
    → Contains (inclusions_of (finite.insert m id new) q) x → Contains (inclusions_of m q) x ⊎ ((q ≡ id) × Adds m command old x)
inclusions_after m id old new command c q x h = by (eqb q id) refl (along _ _ (sym (finite.get-entries (finite.insert m id new) q)) h)
  where
    along : (a b : Option Seen) → a ≡ b → Contains (included_by a) x → Contains (included_by b) x
    along a b same = subst (λ (o : Option Seen). Contains (included_by o) x) same

    by : (b : Bool) → eqb q id ≡ b → Contains (included_by (finite.get (finite.insert m id new) q)) x → Contains (inclusions_of m q) x ⊎ ((q ≡ id) × Adds m command old x)
    by true e now =
        ⊎_elim (λ before. inl (along _ _ (sym (ap (finite.get m) (eqb-true q id e) ∙ c.at) ∙ finite.get-entries m q) before)) (λ more. inr (eqb-true q id e, more))
        (included_after m id old new command c x (along _ _ (get_there m id new q e) now))
    by false e now = inl (along _ _ (get_other m id new q e ∙ finite.get-entries m q) now)

-- ---- a command without a replacement adds no inclusion to a pointer or a list

not_pointer : (m : ObjectMap) (it id : ℕ) (old : Seen) (h : ℕ → Replacement) → finite.get m id ≡ Some old → Some it ≡ Some id
    → option_map h (pointer_value (finite.get m it)) ≡ None → kind_of old ≡ kinds.ObjectPointer → ⊥
not_pointer m it id old h at for none is =
    kind_pointer old is
    (sym (ap pointer_value (ap (finite.get m) (same_Some it id for) ∙ at)) ∙ unmapped h (pointer_value (finite.get m it)) none)

-- only a pointer has a Value that a command writes
has_value : (command : Command) (kind : Kind) → writes command places.Value kind ≡ true → kind ≡ kinds.ObjectPointer
has_value (ChangeNumericValue it value) kinds.ObjectPointer is = refl
has_value (ChangeAttribute it number value) kinds.ObjectPointer is = refl
has_value _ _ is = cc

none_at : (m : ObjectMap) (id : ℕ) (old new : Seen) (command : Command) → Changed m id old new command → replacement_by m command ≡ None
    → (place : Place) → writes command place (kind_of old) ≡ true → is_inclusion place ≡ true → ⊥
none_at m id old new (ChangeListItem list index item) c none place is inclusion = item_replaced m id old new list index item c none
none_at m id old new (ChangeNumericValue it value) c none places.Value is inclusion =
    not_pointer m it id old _ c.at c.for none (has_value (ChangeNumericValue it value) (kind_of old) is)
none_at m id old new (ChangeAttribute it number value) c none places.Value is inclusion =
    not_pointer m it id old _ c.at c.for none (has_value (ChangeAttribute it number value) (kind_of old) is)
none_at m id old new (ChangeFillAttributes it type colour pattern) c none places.Pattern is inclusion = cc
none_at m id old new (ChangeActiveMask set mask) c none places.ActiveMask is inclusion = cc
none_at m id old new (ChangeSoftKeyMask type mask keys) c none places.SoftKeyMask is inclusion = cc
none_at m id old new _ c none _ is inclusion = cc

pub none_added : (m : ObjectMap) (id : ℕ) (old new : Seen) (command : Command) → Changed m id old new command → replacement_by m command ≡ None
    → (x : ℕ) → Adds m command old x → ⊥
none_added m id old new command c none x a = none_at m id old new command c none a.place a.written a.inclusion

-- ---- the IDs of a store are those of its shape

ids_in : (es : Objects) → map (λ (e : ℕ × Fixed). e.0) (shape_of es) ≡ ids es
ids_in [] = refl
ids_in (e ∷ es) = ap (λ (l : List ℕ). e.0 ∷ l) (ids_in es)

pub ids_by : (a b : ObjectMap) → shape_in a ≡ shape_in b → ids_of a ≡ ids_of b
unfolding shape_in
ids_by a b same = sym (ids_in (finite.entries a)) ∙ ap (map (λ (e : ℕ × Fixed). e.0)) same ∙ ids_in (finite.entries b)
