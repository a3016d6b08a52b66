use Rattle.std.proofs.Common.{ℕ, ◌≤◌, ◌++◌, length, List, sym, ap, ◌∙◌, arith}
use Rattle.vt_names.specs.Registry.{Set}
use Rattle.vt_node.proofs.RestOfList.{beyond}
use Rattle.vt_server.specs.States.{state_of}
use Rattle.vt_session.specs.Readings.{set_bytes}
use Rattle.vt_session.proofs.Written.{next_written}
use Rattle.vt_session.proofs.reading.write_sets.Goals as goal
use Rattle.vt_session.proofs.reading.write_sets.Goals.{in-Some+in_ok-extend_from_slice, in_default}

pub loop-index-preserved : goal.loop-index-preserved
loop-index-preserved c = elim c.match-set_by_index.branch [
  | in-Some+in_ok-extend_from_slice w ↦ (
      let bytes : Set → List ℕ = set_bytes (state_of c.args.terminal.now) in
      let before = c.loop-index.text.items in
      next_written bytes c.args.terminal.now.registry.sets c.loop-index.index w.in-Some.set.now before c.match-set_by_index.text.items c.args.text.now.items (sym w.in-Some.ensures)
      (ap (λ text. text.items) w.text-is ∙ w.in_ok-extend_from_slice.ensures.items ∙ ap (λ (l : List ℕ). before ++ l) w.set_bytes.ensures) c.loop-index.invariant)
  | in_default w ↦ (
      let ended : length c.args.terminal.now.registry.sets ≤ c.loop-index.index = beyond c.args.terminal.now.registry.sets c.loop-index.index (sym w.in_default.ensures) in
      absurd (omega arith))
]
