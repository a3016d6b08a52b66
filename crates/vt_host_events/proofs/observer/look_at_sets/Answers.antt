use Rattle.std.proofs.Common.{ℕ, ◌≤◌, length, sym, ap, ◌∙◌, arith}
use Rattle.vt_names.specs.Registry.{Set}
use Rattle.vt_node.proofs.RestOfList.{beyond}
use Rattle.vt_server.specs.States.{state_of}
use Rattle.vt_host_events.specs.Seen.{set_seen}
use Rattle.vt_host_events.proofs.Written.{map_next}
use Rattle.vt_host_events.proofs.observer.look_at_sets.Goals as goal
use Rattle.vt_host_events.proofs.observer.look_at_sets.Goals.{in-Some+in_ok-push, in_default}

pub loop-index-preserved : goal.loop-index-preserved
loop-index-preserved c = elim c.match-set_by_index.branch [
  | in-Some+in_ok-push w ↦ (
      let s = state_of c.args.terminal.now in
      let sets = ap (λ v. v.items) w.sets-is ∙ w.in_ok-push.ensures.items in
      map_next (λ (set : Set). set_seen s c.args.time set.address) c.args.terminal.now.registry.sets c.loop-index.index w.in-Some.set.now w.set_seen.result
      c.loop-index.sets.items c.match-set_by_index.sets.items (sym w.in-Some.ensures)
      (w.set_seen.ensures ∙ ap (λ (address : ℕ). set_seen s c.args.time address) w.address.ensures) c.loop-index.invariant sets)
  | in_default w ↦ (
      let ended : length c.args.terminal.now.registry.sets ≤ c.loop-index.index = beyond c.args.terminal.now.registry.sets c.loop-index.index (sym w.in_default.ensures) in
      absurd (omega arith))
]
