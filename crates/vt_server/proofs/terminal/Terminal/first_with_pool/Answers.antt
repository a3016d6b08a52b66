use Rattle.std.proofs.Common.{◌≡◌, ℕ, ◌≤◌, true, false, drop, length, Option, Some, is_some, sym, ap, ◌∙◌, add-one, arith}
use Rattle.vt_machine.specs.SetStates.{SetState}
use Rattle.vt_names.specs.Registry.{Set}
use Rattle.vt_server.specs.shown.ShownSet.{first_with_pool}
use Rattle.vt_server.specs.States.{state_of}
use Rattle.vt_server.specs.Terminals.{pool_of}
use Rattle.vt_server.proofs.lemmas.shown.EventsOfChange.{some-mapped}
use Rattle.vt_server.proofs.lemmas.shown.LoopsOverSets.{first-passed, first-found}
use Rattle.vt_node.proofs.RestOfList.{beyond}
use Rattle.vt_server.proofs.terminal.Terminal.first_with_pool.Goals as goal
use Rattle.vt_server.proofs.terminal.Terminal.first_with_pool.Goals.{in-Some+else-is_some, in_default}

pub returns-then-is_some : goal.returns-then-is_some
returns-then-is_some c =
    let pools : ℕ → Option SetState = pool_of (state_of c.args.self.now) in
    let sets = c.args.self.now.registry.sets in
    let set : Set = c.in-Some.set.now in
    let so : is_some (pools set.address) ≡ true =
    ap (λ a. is_some (pools a)) (sym c.address-address.ensures) ∙ ap is_some (sym c.pool.ensures)
    ∙ some-mapped (λ live. live.now) c.pool.result ∙ sym c.is_some.ensures ∙ c.if-is_some.true in
    ap (λ (a : ℕ). Some a) c.address-address.ensures
    ∙ sym (first-found pools sets c.loop-place.place set (sym c.in-Some.ensures) so) ∙ c.loop-place.invariant

pub loop-place-preserved : goal.loop-place-preserved
loop-place-preserved c = elim c.match-at.branch [
  | in-Some+else-is_some w ↦ (
      let pools : ℕ → Option SetState = pool_of (state_of c.args.self.now) in
      let sets = c.args.self.now.registry.sets in
      let set : Set = w.in-Some.set.now in
      let so : is_some (pools set.address) ≡ false =
      ap (λ a. is_some (pools a)) (sym w.address-address.ensures) ∙ ap is_some (sym w.pool.ensures)
      ∙ some-mapped (λ live. live.now) w.pool.result ∙ sym w.is_some.ensures ∙ w.if-is_some.false in
      ap (λ n. first_with_pool pools (drop n sets)) (add-one c.loop-place.place)
      ∙ sym (first-passed pools sets c.loop-place.place set (sym w.in-Some.ensures) so) ∙ c.loop-place.invariant)
  | in_default w ↦ (
      let ended : length c.args.self.now.registry.sets ≤ c.loop-place.place = beyond c.args.self.now.registry.sets c.loop-place.place (sym w.in_default.ensures) in
      absurd (omega arith))
]
