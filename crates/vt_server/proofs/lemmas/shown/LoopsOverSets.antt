-- Loops over the sets in order of registration: the first with a pool, and the alarm to show.
use Rattle.std.proofs.Common.{◌≡◌, ℕ, suc, true, false, cond, List, drop, Option, Some, is_some, sym, ap, ◌∙◌}
use Rattle.std.specs.List.{slice_get}
use Rattle.vt_machine.specs.SetStates.{SetState}
use Rattle.vt_names.specs.Registry.{Set}
use Rattle.vt_server.specs.shown.ShownSet.{alarm_in, louder, loudest, first_with_pool}
use Rattle.vt_node.proofs.RestOfList.{dropped}

module _ (pools : ℕ → Option SetState) (sets : List Set) (place : ℕ) (set : Set) (there : slice_get sets place ≡ Some set) where
  pub first-passed : is_some (pools set.address) ≡ false → first_with_pool pools (drop place sets) ≡ first_with_pool pools (drop (suc place) sets)
  first-passed none =
      ap (first_with_pool pools) (dropped sets place set there)
      ∙ ap (λ b. cond b (Some set.address) (first_with_pool pools (drop (suc place) sets))) none

  pub first-found : is_some (pools set.address) ≡ true → first_with_pool pools (drop place sets) ≡ Some set.address
  first-found some =
      ap (first_with_pool pools) (dropped sets place set there)
      ∙ ap (λ b. cond b (Some set.address) (first_with_pool pools (drop (suc place) sets))) some

  pub louder-next : louder set.address (alarm_in (pools set.address)) (loudest pools (drop (suc place) sets)) ≡ loudest pools (drop place sets)
  louder-next = sym (ap (loudest pools) (dropped sets place set there))
