use Rattle.std.proofs.Common.{◌≡◌, ℕ, Some, map, take}
use Rattle.vt_stores.specs.Shapes.{shape_of}
use Rattle.vt_macros.specs.Indexes.{command_in, pieces_in, HasSpansInBounds}
use Rattle.vt_macros.proofs.IndexOrder.{among}
use Rattle.vt_macros.proofs.index.Index.of_commands.Given as goal

abbrev pub invariant-loop-id : goal.invariant-loop-id
invariant-loop-id l =
    HasSpansInBounds l.index
    × ((other : ℕ) → map (command_in l.index) (pieces_in l.index other) ≡ map Some (among (shape_of l.accepted) (take l.id-index l.id-items) other))
