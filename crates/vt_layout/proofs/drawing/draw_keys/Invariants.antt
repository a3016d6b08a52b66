use Rattle.std.proofs.Common.{map}
use Rattle.vt_layout.specs.Drawings.{origin, unmoved}
use Rattle.vt_layout.specs.PageTexts.{with_elements}
use Rattle.vt_layout.specs.Walks.{elements}
use Rattle.vt_layout.proofs.EntriesOnPage.{Becomes}
use Rattle.vt_layout.proofs.drawing.draw_keys.Given as goal

abbrev pub invariant-loop-place : goal.invariant-loop-place
invariant-loop-place g l =
    let store = g.S.Store.contents l.store in
    Becomes (elements 31 store) store (map unmoved l.keys) origin l.place l.page (with_elements store (elements 32 store (map unmoved l.keys) origin) l.fn.page)
