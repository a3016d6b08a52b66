use Rattle.std.proofs.Common.{◌≡◌, ℕ, map, length}
use Rattle.std.specs.Prelude.{is_some, IsTrue}
use Rattle.std.specs.List.{flat_map}
use Rattle.vt_commands.specs.Pieces.{cut}
use Rattle.vt_stores.specs.Shapes.{shape_of}
use Rattle.vt_verify.specs.Macros.{commands_of}
use Rattle.vt_verify.specs.Targets.{target_references}
use Rattle.check_needs.specs.Naming.{has_with}
use Rattle.check_needs.proofs.naming.put_pieces.Given as goal

abbrev pub invariant-loop-piece : goal.invariant-loop-piece
invariant-loop-piece l =
    IsTrue (is_some (cut l.rest))
    × ((parent other : ℕ) → has_with l.fn.set (map (λ r. r.id) (flat_map (target_references (shape_of l.objects) parent) (commands_of l.bytes))) other
    ≡ has_with l.set (map (λ r. r.id) (flat_map (target_references (shape_of l.objects) parent) (commands_of l.rest))) other)

abbrev pub decreases-loop-piece : goal.decreases-loop-piece
decreases-loop-piece l = length l.rest
