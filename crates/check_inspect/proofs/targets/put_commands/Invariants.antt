use Rattle.std.proofs.Common.{◌≡◌, ◌≤◌, ◌-◌, ◌++◌, length}
use Rattle.std.specs.Prelude.{is_some, IsTrue}
use Rattle.std.specs.List.{flat_map}
use Rattle.vt_commands.specs.Pieces.{cut}
use Rattle.vt_stores.specs.Shapes.{shape_of}
use Rattle.vt_verify.specs.Macros.{with_offsets, pieces_of, cut_or_none}
use Rattle.check_inspect.specs.Lists.{all_failing}
use Rattle.check_inspect.specs.References.{passes_at, targets_at}
use Rattle.check_inspect.proofs.targets.put_commands.Given as goal

abbrev pub invariant-loop-piece : goal.invariant-loop-piece
invariant-loop-piece l =
    (length l.rest ≤ length l.bytes)
    × IsTrue (is_some (cut l.rest))
    × (l.found.items ++ flat_map (λ p. all_failing (passes_at l.test (shape_of l.objects)) (targets_at (shape_of l.objects) p)) (with_offsets l.id (length l.bytes - length l.rest) (cut_or_none l.rest))
    ≡ l.fn.found.items ++ flat_map (λ p. all_failing (passes_at l.test (shape_of l.objects)) (targets_at (shape_of l.objects) p)) (pieces_of (l.id, l.bytes)))

abbrev pub decreases-loop-piece : goal.decreases-loop-piece
decreases-loop-piece l = length l.rest
