-- References to a pointer allow all values of the kind of its present value.
use Rattle.std.proofs.Common.{◌≡◌, ℕ, suc, Bool, true, false, cond, eqb, not, ◌&&◌, ◌||◌, List, [], ◌∷◌, get_or, Some, None, refl, sym, ap, ◌∙◌}
use Rattle.std.proofs.lemmas.Bool.{eqb-true}
use Rattle.std.proofs.lemmas.List.Elements.{All-from_recursion}
use Rattle.std.proofs.lemmas.List.Folds.{list_all-append}
use Rattle.std.proofs.lemmas.List.Sums.{list_all-from_AllPass}
use Rattle.std.specs.Prelude.{IsTrue, slice_get}
use Rattle.std.specs.List.{AllByRecursion, list_all, flat_map}
use Rattle.std.specs.FinMap as finite
use Rattle.vt_kinds.specs.declared.slot.Slot.{Slot}
use Rattle.vt_kinds.specs.Records.{Seen}
use Rattle.vt_kinds.specs.References.{slots_of}
use Rattle.vt_stores.specs.Stores.{ObjectMap, Objects}
use Rattle.vt_chains.proofs.IdIndices.{get_placed}
use Rattle.vt_effects.specs.declared.pointers.Pointed.{Pointed}
use Rattle.vt_effects.specs.Changes.{is_one_of}
use Rattle.vt_effects.specs.Effects.{kind_in, pointer_value, allows, all_slots}
use Rattle.vt_effects.specs.Replacements.{slot_allows, IsOfThatKind}
use Rattle.vt_effects.specs.Soundness.{IsSound, is_in_order, value_fits}
use Rattle.vt_effects.proofs.lemmas.stores.OneChangedObject.{second_of}

either : (b : Bool) → cond b true true ≡ true
either true = refl
either false = refl

-- a reference to the pointer that is in order allows the kind
allowed_by : (m : ObjectMap) (p : Pointed) (slot : Slot) → (value : ℕ) → eqb value 65535 ≡ false → kind_in m value ≡ p.kind
    → allows m slot value ≡ true → is_one_of slot.kinds p.kind ≡ true
allowed_by m p slot value there same is =
    ap (is_one_of slot.kinds) (sym same) ∙ ap (λ (b : Bool). cond b true (is_one_of slot.kinds (kind_in m value))) (sym there) ∙ is

slot_is_allowed : (m : ObjectMap) (p : Pointed) (slot : Slot) → finite.get m 65535 ≡ None → IsOfThatKind m p → is_in_order m slot ≡ true → slot_allows p slot ≡ true
slot_is_allowed m p slot null held is = by (eqb slot.id p.pointer) refl (eqb slot.id 65535) refl
  where
    named : slot.id ≡ p.pointer → (b : Bool) → eqb slot.id 65535 ≡ b → cond b slot.null (is_one_of slot.kinds (kind_in m slot.id) && value_fits m slot (pointer_value (finite.get m slot.id))) ≡ true
        → is_one_of slot.kinds p.kind ≡ true
    named same true none is =
        let never = sym held.held ∙ ap (λ (id : ℕ). pointer_value (finite.get m id)) (sym same ∙ eqb-true slot.id 65535 none) ∙ ap pointer_value null in
        absurd cc
    named same false there is =
        allowed_by m p slot held.value held.there held.same
        (sym (ap (value_fits m slot) (ap (λ (id : ℕ). pointer_value (finite.get m id)) same ∙ held.held))
        ∙ second_of (is_one_of slot.kinds (kind_in m slot.id)) (value_fits m slot (pointer_value (finite.get m slot.id))) is)

    by : (b : Bool) → eqb slot.id p.pointer ≡ b → (c : Bool) → eqb slot.id 65535 ≡ c → (not b || cond (eqb p.value 65535) true (is_one_of slot.kinds p.kind)) ≡ true
    by false other c at = refl
    by true same c at =
        ap (λ (x : Bool). cond (eqb p.value 65535) true x)
        (named (eqb-true slot.id p.pointer same) (eqb slot.id 65535) refl is)
        ∙ either (eqb p.value 65535)

slots_allowed : (m : ObjectMap) (p : Pointed) (slots : List Slot) → finite.get m 65535 ≡ None → IsOfThatKind m p → AllByRecursion (λ slot. IsTrue (is_in_order m slot)) slots
    → list_all (slot_allows p) slots ≡ true
slots_allowed m p slots null held all =
    list_all-from_AllPass (slot_allows p) slots (λ k d lt. slot_is_allowed m p (get_or slots k d) null held (All-from_recursion _ slots all k d lt))

-- a test holds for all slots, if it holds for the slots of the object at each index
all_at_places : (test : Slot → Bool) (es : Objects) → ((place : ℕ) (e : ℕ × Seen) → slice_get es place ≡ Some e → list_all test (slots_of e.1) ≡ true)
    → list_all test (flat_map (λ e. slots_of e.1) es) ≡ true
all_at_places test [] each = refl
all_at_places test (e ∷ es) each =
    list_all-append test (slots_of e.1) (flat_map (λ e. slots_of e.1) es)
    ∙ ap (λ (b : Bool). b && list_all test (flat_map (λ e. slots_of e.1) es)) (each 0 e refl)
    ∙ all_at_places test es (λ place. each (suc place))

pub same_kind_allowed : (m : ObjectMap) (p : Pointed) → IsSound m → finite.get m 65535 ≡ None → IsOfThatKind m p → list_all (slot_allows p) (all_slots m) ≡ true
same_kind_allowed m p sound null held =
    all_at_places (slot_allows p) (finite.entries m)
    (λ place e at. slots_allowed m p (slots_of e.1) null held (sound.slots e.0 e.1 (get_placed m place e.0 e.1 at)))
