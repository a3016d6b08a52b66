use Rattle.std.proofs.Common.{ℕ, ◌≤◌, length, sym, ap, ◌∙◌, arith}
use Rattle.serde_json.specs.View.{view}
use Rattle.vt_node.proofs.RestOfList.{beyond}
use Rattle.vt_server.specs.States.{state_of}
use Rattle.vt_service.specs.Asking.{set_data}
use Rattle.vt_service.proofs.Listed.{next_told}
use Rattle.vt_service.proofs.asking.sets.Goals as goal
use Rattle.vt_service.proofs.asking.sets.Goals.{in-Some+in_ok-set_value+in_ok-push, in_default}

pub loop-index-preserved : goal.loop-index-preserved
loop-index-preserved c = elim c.match-set_by_index.branch [
  | in-Some+in_ok-set_value+in_ok-push w ↦ (
      next_told view (set_data (state_of c.args.terminal.now)) (state_of c.args.terminal.now).sets c.loop-index.index w.in-Some.set.now w.in_ok-set_value.field-0
      c.loop-index.values.items c.match-set_by_index.values.items (sym w.in-Some.ensures)
      (ap (λ values. values.items) w.values-is ∙ w.in_ok-push.ensures.items)
      w.in_ok-set_value.ensures c.loop-index.invariant)
  | in_default w ↦ (
      let ended : length (state_of c.args.terminal.now).sets ≤ c.loop-index.index = beyond (state_of c.args.terminal.now).sets c.loop-index.index (sym w.in_default.ensures) in
      absurd (omega arith))
]
