use Rattle.std.proofs.Common.{◌≡◌, ℕ, suc, ◌≤◌, ◌-◌, drop, length, Option, sym, ◌∙◌, arith}
use Rattle.vt_machine.specs.SetStates.{SetState}
use Rattle.vt_names.specs.Registry.{Set}
use Rattle.vt_server.specs.shown.ShownSet.{loudest, louder, alarm_in}
use Rattle.vt_server.specs.States.{state_of}
use Rattle.vt_server.specs.Terminals.{pool_of}
use Rattle.vt_server.proofs.lemmas.shown.LoopsOverSets.{louder-next}
use Rattle.vt_node.proofs.RestOfList.{beyond}
use Rattle.vt_server.proofs.terminal.Terminal.loudest.Goals as goal

pub loop-place-preserved-in-Some : goal.loop-place-preserved-in-Some
loop-place-preserved-in-Some c =
    let pools : ℕ → Option SetState = pool_of (state_of c.args.self.now) in
    let sets = c.args.self.now.registry.sets in
    let set : Set = c.in-Some.set.now in
    let place : ℕ = c.loop-place.place in
    let next : suc (place - 1) ≡ place = omega arith in record {
      within = omega arith;
      is =
          c.louder-loudest.ensures
          ∙ (λ i. louder c.address-address.result (c.alarm.ensures i) (c.loop-place.invariant.is i))
          ∙ (λ i. louder (c.address-address.ensures i) (alarm_in (pools (c.address-address.ensures i))) (loudest pools (drop (sym next i) sets)))
          ∙ louder-next pools sets (place - 1) set (sym c.in-Some.ensures);
    }

pub loop-place-preserved : goal.loop-place-preserved
loop-place-preserved c =
    let sets = c.args.self.now.registry.sets in
    let ended : length sets ≤ c.loop-place.place - 1 = beyond sets (c.loop-place.place - 1) (sym c.in_default.ensures) in
    absurd (omega arith)
