-- Slots stay in order when one object changes, and so do those that a command writes.
use Rattle.std.proofs.Common.{◌≡◌, ℕ, Bool, true, false, ◌==◌, ◌||◌, not, List, [], ◌∷◌, get_or, Some, sym, subst, ◌∙◌}
use Rattle.std.proofs.lemmas.List.Elements.{All-from_recursion, recursion_from_All}
use Rattle.std.proofs.lemmas.List.Folds.{list_all-append}
use Rattle.std.proofs.lemmas.List.Sums.{AllPass-from_list_all}
use Rattle.std.specs.Prelude.{IsTrue}
use Rattle.std.specs.List.{AllByRecursion, list_all, flat_map}
use Rattle.std.specs.FinMap as finite
use Rattle.vt_kinds.specs.declared.slot.Slot.{Slot}
use Rattle.vt_kinds.specs.Records.{Seen, kind_of}
use Rattle.vt_kinds.specs.References.{slots_of}
use Rattle.vt_stores.specs.Stores.{ObjectMap, Objects, object_at}
use Rattle.vt_effects.specs.Effects.{pointer_value, allows, all_slots}
use Rattle.vt_effects.specs.Soundness.{is_in_order}
use Rattle.vt_stores.proofs.SortedEntries.{both_true}
use Rattle.vt_chains.proofs.InclusionsInStore.{entry_case}
use Rattle.vt_effects.proofs.lemmas.stores.OneChangedObject.{in_order_stays}

-- ---- the slots of the unchanged object

or_second : (b c : Bool) → b ≡ true → IsTrue (not b || c) → IsTrue c
or_second true c e is = is
or_second false c e is = absurd cc

-- all references to a pointer allow its new value
abbrev pub Allowing : ObjectMap → ℕ → Seen → List Slot → Type 0
Allowing m id new slots = (w : ℕ) → pointer_value (Some new) ≡ Some w → list_all (λ s. not (s.id == id) || allows m s w) slots ≡ true

pub slots_stay : (m : ObjectMap) (id : ℕ) (old new : Seen) (slots : List Slot) → finite.get m id ≡ Some old → kind_of new ≡ kind_of old → Allowing m id new slots
    → AllByRecursion (λ s. IsTrue (is_in_order m s)) slots → AllByRecursion (λ s. IsTrue (is_in_order (finite.insert m id new) s)) slots
slots_stay m id old new slots at kinds fits all =
    recursion_from_All _ slots
    (λ k d lt. in_order_stays m id old new (get_or slots k d) at kinds (λ e w is. or_second _ _ e (AllPass-from_list_all _ slots (fits w is) k d lt))
    (All-from_recursion _ slots all k d lt))

-- a test of all slots holds for the slots of each object
found_slots : (p : Slot → Bool) (es : Objects) (q : ℕ) (x : Seen) → object_at es q ≡ Some x → list_all p (flat_map (λ e. slots_of e.1) es) ≡ true
    → list_all p (slots_of x) ≡ true
found_slots p [] q x found all = absurd cc
found_slots p (e ∷ es) q x found all =
    let parts = both_true (list_all p (slots_of e.1)) (list_all p (flat_map (λ e. slots_of e.1) es)) (sym (list_all-append p (slots_of e.1) _) ∙ all) in
    entry_case (list_all p (slots_of x) ≡ true) e es q x found (λ _ same. subst (λ (o : Seen). list_all p (slots_of o) ≡ true) same parts.0)
    (λ later. found_slots p es q x later parts.1)

pub slots_among : (p : Slot → Bool) (m : ObjectMap) (q : ℕ) (x : Seen) → finite.get m q ≡ Some x → list_all p (all_slots m) ≡ true → list_all p (slots_of x) ≡ true
slots_among p m q x at all = found_slots p (finite.entries m) q x (sym (finite.get-entries m q) ∙ at) all
