use Rattle.std.proofs.Common.{◌+◌, ◌*◌, ◌-◌, drop}
use Rattle.draw_picture.specs.Marks.{each_marked, marks}
use Rattle.draw_picture.proofs.Walked.{IsWalking}
use Rattle.draw_picture.proofs.walk.+walking.Given as goal

abbrev pub decreases-walk_entries : goal.decreases-walk_entries
decreases-walk_entries g l = 5 * l.depth

abbrev pub decreases-walk_entry : goal.decreases-walk_entry
decreases-walk_entry g l = 5 * l.depth + 4

abbrev pub decreases-walk_item : goal.decreases-walk_item
decreases-walk_item g l = 5 * l.depth + 1

abbrev pub decreases-walk_within : goal.decreases-walk_within
decreases-walk_within g l = 5 * l.depth + 2

abbrev pub invariant-walk_entries-loop-entry : goal.invariant-walk_entries-loop-entry
invariant-walk_entries-loop-entry g l =
    let store = g.S.Store.contents l.store in
    IsWalking (each_marked store (marks (l.depth - 1) store) (drop l.entry-index l.entries)) (marks l.depth store l.entries) l.fn.walk l.walk
