-- The remaining slots of the iterator over an object's references.
use Rattle.std.specs.Prelude.{ℕ, List, ◌∷◌, length, map, Option, Some, None}
use Rattle.vt_kinds.specs.declared.kind.Kind.{Kind}
use Rattle.vt_kinds.specs.declared.place.Place.TheVariants as places
use Rattle.vt_kinds.specs.declared.slot.Slot.{Slot}
use Rattle.vt_kinds.specs.declared.slot.Listed.{Listed}
use Rattle.vt_kinds.specs.declared.slot.Listed.TheVariants.{Children, Keys, Items}
use Rattle.vt_kinds.specs.References.{slots_listed}

-- the slots of a list's remaining entries, numbered from an index
abbrev pub listed_from : Kind → ℕ → Listed → List Slot
listed_from kind index (Children children) = slots_listed kind places.Child index (map (λ c. c.id) children.now)
listed_from kind index (Keys keys) = slots_listed kind places.Key index keys.now
listed_from kind index (Items items) = slots_listed kind places.Item index items.now

abbrev pub entries_left : Listed → ℕ
entries_left (Children children) = length children.now
entries_left (Keys keys) = length keys.now
entries_left (Items items) = length items.now

-- prepends a slot to slots, if there is one
abbrev pub prepended : Option Slot → List Slot → List Slot
prepended None slots = slots
prepended (Some slot) slots = slot ∷ slots
