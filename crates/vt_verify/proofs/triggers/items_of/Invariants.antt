use Rattle.std.proofs.Common.{◌≡◌, ◌++◌, length}
use Rattle.std.specs.Prelude.{is_some, IsTrue}
use Rattle.std.specs.List.{flat_map}
use Rattle.vt_commands.specs.Pieces.{cut}
use Rattle.vt_verify.specs.Macros.{commands_of}
use Rattle.vt_verify.specs.TriggerGraphs.{command_items}
use Rattle.vt_verify.proofs.triggers.items_of.Given as goal

abbrev pub invariant-loop-piece : goal.invariant-loop-piece
invariant-loop-piece l =
    IsTrue (is_some (cut l.rest))
    × (l.items.items ++ flat_map (command_items l.events.keys) (commands_of l.rest) ≡ flat_map (command_items l.events.keys) (commands_of l.bytes))

abbrev pub decreases-loop-piece : goal.decreases-loop-piece
decreases-loop-piece l = length l.rest
