use Rattle.std.proofs.Common.{◌≡◌, ◌≤◌, ◌-◌, ◌++◌}
use Rattle.draw_svg.specs.Elements.{text_of}
use Rattle.draw_shapes.specs.Fields.{pieces, row_nodes}
use Rattle.draw_shapes.proofs.shapes.fields.draw_pieces.Given as goal

abbrev pub invariant-loop-row : goal.invariant-loop-row
invariant-loop-row l =
    (l.row ≤ l.rows)
    × (l.out.items ++ text_of (row_nodes l.look l.field l.row (pieces (l.rows - l.row) l.characters l.rest))
    ≡ l.fn.out.items ++ text_of (row_nodes l.look l.field 0 (pieces l.rows l.characters l.shown)))

abbrev pub decreases-loop-row : goal.decreases-loop-row
decreases-loop-row l = l.rows - l.row
