use Rattle.std.proofs.Common.{◌∙◌, sym}
use Rattle.vt_shown.proofs.DrawnElements.{stands_itself}
use Rattle.vt_shown.proofs.search.direct_index.Goals as goal

pub returns-then-is_element_at : goal.returns-then-is_element_at
returns-then-is_element_at g c =
    let m = g.S.Store.contents c.args.store.now in
    let at = c.in_ok-index.ensures.some in
    let itself = stands_itself m c.args.id c.in_ok-index.index at (sym (c.is_element_at.ensures (c.args.id, at.object) at.there) ∙ c.if-is_element_at.true) in
    (at, itself.0, itself.1)
