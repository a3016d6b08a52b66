use Rattle.std.proofs.Common.{◌+◌, ◌*◌, ◌-◌}
use Rattle.vt_layout.specs.Walks.{elements}
use Rattle.vt_layout.specs.PageTexts.{with_elements}
use Rattle.vt_layout.proofs.EntriesOnPage.{Becomes}
use Rattle.vt_layout.proofs.drawing.+drawing.Given as goal

abbrev pub decreases-draw_entries : goal.decreases-draw_entries
decreases-draw_entries g l = 5 * l.depth

abbrev pub decreases-draw_entry : goal.decreases-draw_entry
decreases-draw_entry g l = 5 * l.depth + 4

abbrev pub decreases-draw_item : goal.decreases-draw_item
decreases-draw_item g l = 5 * l.depth + 1

abbrev pub decreases-draw_within : goal.decreases-draw_within
decreases-draw_within g l = 5 * l.depth + 2

abbrev pub invariant-draw_entries-loop-place : goal.invariant-draw_entries-loop-place
invariant-draw_entries-loop-place g l =
    let store = g.S.Store.contents l.store in
    Becomes (elements (l.depth - 1) store) store l.entries l.from l.place l.page (with_elements store (elements l.depth store l.entries l.from) l.fn.page)
