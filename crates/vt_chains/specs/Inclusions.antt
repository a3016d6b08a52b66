-- Inclusions of objects and chains of them (docs/PROFILE.md, "Inclusions and chains").
use Rattle.std.specs.Prelude.{◌≡◌, ◌≤◌, ◌+◌, ℕ, Bool, true, false, ◌==◌, ◌&&◌, not, List, [], ◌∷◌, filter, map, length, Option, Some, None, Contains}
use Rattle.vt_kinds.specs.declared.place.Place.{Place}
use Rattle.vt_kinds.specs.declared.place.Place.TheVariants as places
use Rattle.vt_kinds.specs.declared.slot.Slot.{Slot}
use Rattle.vt_kinds.specs.Ids.{null_id}
use Rattle.vt_kinds.specs.Records.{Seen}
use Rattle.vt_kinds.specs.References.{slots_of}
use Rattle.vt_stores.specs.Stores.{Objects, object_at}

-- the including references: children, keys, items, and the value of a pointer
abbrev pub is_inclusion : Place → Bool
is_inclusion (places.Child index) = true
is_inclusion (places.Key index) = true
is_inclusion (places.Item index) = true
is_inclusion places.Value = true
is_inclusion _ = false

-- an including reference other than NULL
abbrev pub includes : Slot → Bool
includes slot = is_inclusion slot.place && not (slot.id == null_id)

abbrev pub included_by : Option Seen → List ℕ
included_by None = []
included_by (Some o) = map (λ slot. slot.id) (filter includes (slots_of o))

-- the IDs that the object of an ID includes
abbrev pub included : Objects → ℕ → List ℕ
included objects id = included_by (object_at objects id)

-- ---- chains of inclusions

-- each ID includes the next
abbrev pub IsChain : (ℕ → List ℕ) → List ℕ → Type 0
IsChain included [] = Unit {0}
IsChain included (a ∷ []) = Unit {0}
IsChain included (a ∷ b ∷ ids) = Contains (included a) b × IsChain included (b ∷ ids)

-- no chain has more than `most` inclusions
abbrev pub IsShallow : ℕ → (ℕ → List ℕ) → Type 0
IsShallow most included = (ids : List ℕ) → IsChain included ids → length ids ≤ most + 1

-- a chain with one inclusion too many
abbrev pub IsTooDeep : ℕ → (ℕ → List ℕ) → List ℕ → Type 0
IsTooDeep most included ids = IsChain included ids × (length ids ≡ most + 2)
