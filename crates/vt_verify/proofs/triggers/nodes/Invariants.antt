use Rattle.std.proofs.Common.{◌≡◌, ◌<◌, ℕ, [], length}
use Rattle.std.specs.Prelude.{slice_index_or}
use Rattle.std.specs.List.{flat_map}
use Rattle.vt_rank.specs.Graphs.{lists}
use Rattle.vt_stores.specs.Shapes.{shape_of}
use Rattle.vt_verify.specs.Macros.{commands}
use Rattle.vt_verify.specs.TriggerGraphs.{command_items}
use Rattle.vt_verify.proofs.triggers.nodes.Given as goal

abbrev pub invariant-loop-id : goal.invariant-loop-id
invariant-loop-id l =
    (length (lists l.nodes) ≡ l.id)
    × ((id : ℕ) → id < l.id → slice_index_or (lists l.nodes) id [] ≡ flat_map (command_items l.events.keys) (commands (shape_of l.objects) id))
