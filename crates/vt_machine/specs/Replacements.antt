-- Objects that replace others with the same references and macros (docs/PROFILE.md, "Updates of a pool").
use Rattle.std.specs.Prelude.{◌≡◌, ℕ, List, [], ◌∷◌, map, Some}
use Rattle.std.specs.List.{AllByRecursion}
use Rattle.std.specs.FinMap as finite
use Rattle.vt_kinds.specs.declared.slot.Slot.{Slot}
use Rattle.vt_kinds.specs.Records.{Seen}
use Rattle.vt_kinds.specs.References.{slots_of}
use Rattle.vt_stores.specs.Shapes.{fixed}
use Rattle.vt_stores.specs.Stores.{Objects, ObjectMap}

-- The store has an object of this ID, with the same kind, macros and references.
pub record Replaces (store : ObjectMap) (entry : ℕ × Seen) : Type 0 where
  pub old : Seen
  pub there : finite.get store entry.0 ≡ Some old
  pub same_shape : fixed entry.1 ≡ fixed old
  pub same_slots : slots_of entry.1 ≡ slots_of old

abbrev pub AreReplacements : ObjectMap → Objects → Type 0
AreReplacements store entries = AllByRecursion (Replaces store) entries

-- the store with each object in place of the one of its ID; the first one counts for a repeated ID
abbrev pub with_objects_put : ObjectMap → Objects → ObjectMap
with_objects_put store [] = store
with_objects_put store (entry ∷ entries) = finite.insert (with_objects_put store entries) entry.0 entry.1

abbrev pub ids_of_slots : List Slot → List ℕ
ids_of_slots slots = map (λ slot. slot.id) slots
