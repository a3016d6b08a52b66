-- Two objects with the same kind, macro entries, macro bytes and IDs in their slots have the same shape and slots.
use Rattle.std.proofs.Common.{◌≡◌, ℕ, Bool, true, false, not, ◌&&◌, eqb, List, Some, refl, sym, ap, subst, ◌∙◌}
use Rattle.std.proofs.lemmas.Bool.{eqb-true, eq-eqb}
use Rattle.std.proofs.lemmas.Slice.Eq.{slice_eq-Decides}
use Rattle.std.specs.Bool.{Decides}
use Rattle.std.specs.Cmp.Lexicographic.{pointwise}
use Rattle.std.specs.FinMap as finite
use Rattle.vt_kinds.specs.declared.entries.MacroEntry.{MacroEntry}
use Rattle.vt_kinds.specs.declared.object.Object.{Object}
use Rattle.vt_kinds.specs.Records.{seen, kind_of, macros_of}
use Rattle.vt_kinds.specs.References.{slots_of}
use Rattle.vt_stores.specs.Shapes.{Fixed, fixed, macro_bytes}
use Rattle.vt_stores.specs.Stores.{ObjectMap}
use Rattle.vt_stores.proofs.ObjectShapes.{seen_kind, seen_macros, seen_slots}
use Rattle.vt_stores.proofs.SortedEntries.{both_true, true_both}
use Rattle.vt_machine.specs.Replacements.{Replaces, ids_of_slots}
use Rattle.vt_machine.proofs.SlotsByIds.{same_slots}

pub not_other : (b : Bool) → false ≡ not b → b ≡ true
not_other true is = refl
not_other false is = absurd cc

abbrev same_entry : MacroEntry → MacroEntry → Bool
same_entry a b = eqb a.event b.event && eqb a.macro_id b.macro_id

entry_decides : (a b : MacroEntry) → Decides (same_entry a b) (a ≡ b)
entry_decides a b = (
  λ is. let both = both_true (eqb a.event b.event) (eqb a.macro_id b.macro_id) is in
      λ i. record { event = eqb-true a.event b.event both.0 i; macro_id = eqb-true a.macro_id b.macro_id both.1 i },
  λ is. subst (λ (x : MacroEntry). same_entry a x ≡ true) is
      (true_both (eqb a.event a.event) (eqb a.macro_id a.macro_id) (eq-eqb a.event a.event refl) (eq-eqb a.macro_id a.macro_id refl)),
)

pub same_entries : (xs ys : List MacroEntry) → pointwise same_entry xs ys ≡ true → xs ≡ ys
same_entries xs ys is = (slice_eq-Decides entry_decides xs ys (pointwise same_entry xs ys) refl).0 is

module _ {B C : Type 0} (a : Object B) (b : Object C) where
  pub same_fixed : kind_of a ≡ kind_of b → macros_of a ≡ macros_of b → macro_bytes (seen a) ≡ macro_bytes (seen b) → fixed (seen a) ≡ fixed (seen b)
  same_fixed kinds macros bytes = λ i. record {
    kind = (seen_kind a ∙ kinds ∙ sym (seen_kind b)) i;
    macros = (seen_macros a ∙ macros ∙ sym (seen_macros b)) i;
    bytes = bytes i;
  }

  pub replaces_by : (m : ObjectMap) (id : ℕ) → Some (seen b) ≡ finite.get m id → fixed (seen a) ≡ fixed (seen b)
      → ids_of_slots (slots_of a) ≡ ids_of_slots (slots_of b) → Replaces m (id, seen a)
  replaces_by m id there shape ids = record {
    old = seen b;
    there = sym there;
    same_shape = shape;
    same_slots = same_slots (seen a) (seen b) (ap (λ (f : Fixed). f.kind) shape) (ap ids_of_slots (seen_slots a) ∙ ids ∙ sym (ap ids_of_slots (seen_slots b)));
  }
