use Rattle.std.proofs.Common.{◌≡◌, ◌≤◌, ◌-◌, ◌++◌, length}
use Rattle.std.specs.Prelude.{is_some, IsTrue}
use Rattle.std.specs.List.{flat_map}
use Rattle.vt_commands.specs.Pieces.{cut}
use Rattle.vt_stores.specs.Shapes.{shape_of}
use Rattle.vt_verify.specs.Macros.{with_offsets, pieces_of, cut_or_none}
use Rattle.check_costs.specs.Shares.{piece_shares}
use Rattle.check_costs.proofs.macro_costs.put_shares.Given as goal

abbrev pub invariant-loop-piece : goal.invariant-loop-piece
invariant-loop-piece l =
    (length l.rest ≤ length l.bytes)
    × IsTrue (is_some (cut l.rest))
    × (l.shares.items ++ flat_map (piece_shares (shape_of l.pool.objects.now) l.hide) (with_offsets 0 (length l.bytes - length l.rest) (cut_or_none l.rest))
    ≡ l.fn.shares.items ++ flat_map (piece_shares (shape_of l.pool.objects.now) l.hide) (pieces_of (0, l.bytes)))

abbrev pub decreases-loop-piece : goal.decreases-loop-piece
decreases-loop-piece l = length l.rest
