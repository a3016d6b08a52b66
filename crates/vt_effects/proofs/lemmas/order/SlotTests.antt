-- A test of all slots of a store, entry by entry.
use Rattle.std.proofs.Common.{◌≡◌, ◌≤◌, ◌+◌, ◌&&◌, ℕ, zero, suc, Bool, true, false, List, [], ◌∷◌, drop, length, Option, refl, sym, ap, ◌∙◌, arith, add-one, append-nil}
use Rattle.std.proofs.lemmas.List.Folds.{list_all-append}
use Rattle.std.specs.Prelude.{slice_get}
use Rattle.std.specs.Option.{option_to_list}
use Rattle.std.specs.List.{list_all, flat_map}
use Rattle.vt_kinds.specs.declared.kind.Kind.{Kind}
use Rattle.vt_kinds.specs.declared.slot.Slot.{Slot}
use Rattle.vt_kinds.specs.References.{slots_of}
use Rattle.vt_stores.specs.Stores.{ObjectMap, Objects}
use Rattle.vt_effects.specs.Effects.{kind_in, all_slots, places_allow}
use Rattle.vt_effects.specs.Replacements.{slot_allows}

-- the slots of the entries from an index on
abbrev pub slots_from : Objects → ℕ → List Slot
slots_from es place = flat_map (λ e. slots_of e.1) (drop place es)

-- the slots of the entry at an index
abbrev pub slots_at : Objects → ℕ → List Slot
slots_at es place = flat_map (λ e. slots_of e.1) (option_to_list (slice_get es place))

entry_step : (p : Slot → Bool) (es : Objects) (place : ℕ) → list_all p (slots_from es place) ≡ (list_all p (slots_at es place) && list_all p (slots_from es (suc place)))
entry_step p [] zero = refl
entry_step p [] (suc place) = refl
entry_step p (e ∷ es) zero =
    list_all-append p (slots_of e.1) (flat_map (λ f. slots_of f.1) es)
    ∙ ap (λ (xs : List Slot). list_all p xs && list_all p (flat_map (λ f. slots_of f.1) es)) (sym (append-nil (slots_of e.1)))
entry_step p (e ∷ es) (suc place) = entry_step p es place

pub entry_passed : (p : Slot → Bool) (es : Objects) (place : ℕ) → list_all p (slots_at es place) ≡ true → list_all p (slots_from es place) ≡ list_all p (slots_from es (place + 1))
entry_passed p es place is =
    entry_step p es place ∙ ap (λ b. b && list_all p (slots_from es (suc place))) is ∙ ap (λ (n : ℕ). list_all p (slots_from es n)) (sym (add-one place))

pub entry_failed : (p : Slot → Bool) (es : Objects) (place : ℕ) → list_all p (slots_at es place) ≡ false → list_all p (slots_from es place) ≡ false
entry_failed p es place is = entry_step p es place ∙ ap (λ b. b && list_all p (slots_from es (suc place))) is

pub none_left : (p : Slot → Bool) (es : Objects) (place : ℕ) → length es ≤ place → list_all p (slots_from es place) ≡ true
none_left p [] zero le = refl
none_left p [] (suc place) le = refl
none_left p (e ∷ es) zero le = absurd (omega (arith, le))
none_left p (e ∷ es) (suc place) le = none_left p es place (omega (arith, le))

pub allow_is : (m : ObjectMap) (pointer value : ℕ) (kind : Option Kind) (b : Bool) → kind ≡ kind_in m value
    → list_all (slot_allows (record { pointer = pointer; value = value; kind = kind })) (all_slots m) ≡ b → b ≡ places_allow m pointer value
allow_is m pointer value kind b is all =
    sym all ∙ ap (λ (k : Option Kind). list_all (slot_allows (record { pointer = pointer; value = value; kind = k })) (all_slots m)) is
