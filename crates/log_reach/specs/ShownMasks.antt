-- The masks that were shown, by the addresses of their sets.
use Rattle.std.specs.Prelude.{◌≡◌, ◌≢◌, ◌↔◌, ◌⊎◌, ℕ, Bool, Option, Some, None, IsTrue}
use Rattle.vt_kinds.specs.Ids.{null_id}
use Rattle.vt_machine.specs.SetStates.{SetState, active_in}
use Rattle.log_reach.specs.PairSets.{has_pair}
use Rattle.vt_server.specs.Terminals.{State}
use Rattle.vt_server.specs.shown.ShownSet.{pool_shown}
use Rattle.log_reach.specs.declared.shown_masks.ReachedMasks.{ReachedMasks}

-- a mask was shown of the set at an address
abbrev pub was_shown : ReachedMasks → ℕ → ℕ → Bool
was_shown shown address mask = has_pair shown.masks.pairs (address, mask)

abbrev pub HasShown : ReachedMasks → ℕ → ℕ → Type 0
HasShown shown address mask = IsTrue (was_shown shown address mask)

-- a mask of the set at an address joins those that were shown: the others stay, and no other joins
abbrev pub Adds : (ℕ → ℕ → Type 0) → (ℕ → ℕ → Type 0) → ℕ → ℕ → Type 0
Adds old new own shown = (address mask : ℕ) → new address mask ↔ (old address mask ⊎ ((address ≡ own) × (mask ≡ shown)))

-- a mask is the active mask of the shown set, which is at this address
abbrev pub IsActiveOf : Option (ℕ × SetState) → ℕ → ℕ → Type 0
IsActiveOf None address mask = ⊥
IsActiveOf (Some found) address mask = (address ≡ found.0) × (mask ≡ active_in found.1.objects) × (mask ≢ null_id)

-- a terminal shows a mask of the set at an address
abbrev pub ShowsMask : State → ℕ → ℕ → Type 0
ShowsMask state address mask = IsActiveOf (pool_shown state) address mask

-- The mask that a terminal shows joins those that were shown, if it shows one. They stay, and no other joins.
abbrev pub AddsShown : (ℕ → ℕ → Type 0) → (ℕ → ℕ → Type 0) → State → Type 0
AddsShown old new state = (address mask : ℕ) → new address mask ↔ (old address mask ⊎ ShowsMask state address mask)
