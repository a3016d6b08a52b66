-- The mask that a terminal shows.
use Rattle.std.proofs.Common.{◌≡◌, ◌≢◌, ◌↔◌, ◌⊎◌, ℕ, Option, Some, subst, sym, ◌∙◌, inl, inr}
use Rattle.vt_kinds.specs.Ids.{null_id}
use Rattle.vt_machine.specs.SetStates.{SetState, active_in}
use Rattle.log_reach.specs.declared.shown_masks.ReachedMasks.{ReachedMasks}
use Rattle.log_reach.specs.ShownMasks.{HasShown, Adds, AddsShown, IsActiveOf, ShowsMask}
use Rattle.vt_server.specs.Terminals.{State}

joins : (old new : ReachedMasks) (found : ℕ × SetState) (shown : ℕ) → shown ≡ active_in found.1.objects → shown ≢ null_id
    → Adds (HasShown old) (HasShown new) found.0 shown
    → (address mask : ℕ) → HasShown new address mask ↔ (HasShown old address mask ⊎ IsActiveOf (Some found) address mask)
joins old new found shown is some adds address mask = (
  (λ has. elim ((adds address mask).0 has) [
    | inl had ↦ inl had
    | inr parts ↦ inr (parts.0, parts.1 ∙ is, subst (λ (m : ℕ). m ≢ null_id) (sym parts.1) some)
  ]),
  λ side. elim side [
    | inl had ↦ (adds address mask).1 (inl had)
    | inr active ↦ (adds address mask).1 (inr (active.0, active.1 ∙ sym is))
  ],
)

-- the active mask of the shown set joins the masks that were shown
pub shown_mask_joins : (old new : ReachedMasks) (set : Option (ℕ × SetState)) (found : ℕ × SetState) (shown : ℕ)
    → set ≡ Some found → shown ≡ active_in found.1.objects → shown ≢ null_id → Adds (HasShown old) (HasShown new) found.0 shown
    → (address mask : ℕ) → HasShown new address mask ↔ (HasShown old address mask ⊎ IsActiveOf set address mask)
shown_mask_joins old new set found shown is_found is some adds =
    subst (λ (set : Option (ℕ × SetState)). (address mask : ℕ) → HasShown new address mask ↔ (HasShown old address mask ⊎ IsActiveOf set address mask))
    (sym is_found) (joins old new found shown is some adds)

-- of the masks that were shown none was before, and the others are those that a terminal shows
pub shows_alone : (old new : ReachedMasks) (state : State) → ((address mask : ℕ) → ¬ HasShown old address mask) → AddsShown (HasShown old) (HasShown new) state
    → (address mask : ℕ) → HasShown new address mask ↔ ShowsMask state address mask
shows_alone old new state none adds address mask = (
  (λ has. elim ((adds address mask).0 has) [ inl had ↦ absurd (none address mask had) | inr shows ↦ shows ]),
  λ shows. (adds address mask).1 (inr shows),
)
