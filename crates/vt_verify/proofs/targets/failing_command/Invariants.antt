use Rattle.std.proofs.Common.{◌≡◌, length}
use Rattle.std.specs.Prelude.{is_some, IsTrue}
use Rattle.std.specs.List.{flat_map}
use Rattle.vt_commands.specs.Pieces.{cut}
use Rattle.vt_verify.specs.Lists.{first_failing}
use Rattle.vt_stores.specs.Shapes.{shape_of}
use Rattle.vt_verify.specs.References.{passes}
use Rattle.vt_verify.specs.Macros.{commands_of}
use Rattle.vt_verify.specs.Targets.{target_references}
use Rattle.vt_verify.proofs.targets.failing_command.Given as goal

abbrev pub invariant-loop-piece : goal.invariant-loop-piece
invariant-loop-piece l =
    IsTrue (is_some (cut l.rest))
    × (first_failing (passes l.test (shape_of l.objects)) (flat_map (target_references (shape_of l.objects) l.id) (commands_of l.bytes))
    ≡ first_failing (passes l.test (shape_of l.objects)) (flat_map (target_references (shape_of l.objects) l.id) (commands_of l.rest)))

abbrev pub decreases-loop-piece : goal.decreases-loop-piece
decreases-loop-piece l = length l.rest
