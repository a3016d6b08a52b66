use Rattle.std.proofs.Common.{◌∙◌, refl, sym, ap, ◌+◌, ◌-◌, ◌≡◌, subst, map, arith}
use Rattle.vt_layout.specs.Drawings.{element, unmoved}
use Rattle.vt_layout.specs.PageTexts.{with_elements, IsNear}
use Rattle.vt_layout.specs.Walks.{elements, with_drawn}
use Rattle.vt_shown.specs.ShownElements.{resolves_to}
use Rattle.vt_layout.proofs.EntriesOnPage.{becomes_next, level, no_level, full_page, none_drawn, none_within}
use Rattle.vt_layout.proofs.drawing.+drawing.Goals as goal

pub draw_entries-returns-then-depth-eq0 : goal.draw_entries-returns-then-depth-eq0
draw_entries-returns-then-depth-eq0 g t c =
    let store = g.S.Store.contents c.args.store.now in
    ap (λ es. with_elements store es c.args.page.now) (sym (no_level c.args.depth store c.args.entries.now c.args.from c.if-depth-eq0.true))

pub draw_entries-loop-place-init : goal.draw_entries-loop-place-init
draw_entries-loop-place-init g t c =
    let store = g.S.Store.contents c.args.store.now in
    let some = c.if-depth-eq0.false in
    ap (λ es. with_elements store es c.args.page.now) (sym (level c.args.depth (c.args.depth - 1) store c.args.entries.now c.args.from (omega (arith, some))))

pub draw_entries-draw_entry-requires : goal.draw_entries-draw_entry-requires
draw_entries-draw_entry-requires g t c κs within =
    let measure = c.decreases in
    let some = c.if-depth-eq0.false in
    let more : c.args.depth ≡ (c.args.depth - 1) + 1 = omega (arith, some) in (
      omega (arith, measure, some),
      (within, c.shifted.ensures.near (c.args.depth - 1) (subst (λ n. IsNear n c.args.from) more c.requires)),
    )

pub draw_entries-loop-place-preserved : goal.draw_entries-loop-place-preserved
draw_entries-loop-place-preserved g t c =
    let store = g.S.Store.contents c.args.store.now in
    let inner = elements (c.args.depth - 1) store in
    becomes_next inner store c.args.entries.now c.args.from c.loop-place.place c.index-entries-place.result _ c.loop-place.page c.draw_entry.new.page
    (with_elements store (elements c.args.depth store c.args.entries.now c.args.from) c.args.page.now)
    c.loop-place-test.true (sym c.index-entries-place.is) c.loop-place.invariant
    (c.in_ok-draw_entry.ensures ∙ ap (λ at. with_elements store (with_drawn inner store (element store c.loop-place.place at (resolves_to store c.index-entries-place.result.id))) c.loop-place.page) c.shifted.ensures.is)

pub draw_entry-returns-then-is_full : goal.draw_entry-returns-then-is_full
draw_entry-returns-then-is_full g t c =
    let store = g.S.Store.contents c.args.store.now in
    full_page store (with_drawn (elements c.args.depth store) store (element store c.args.place c.args.at (resolves_to store c.args.id))) c.args.page.now (c.if-is_full.ensures.0 refl)

pub draw_item-returns-in-None : goal.draw_item-returns-in-None
draw_item-returns-in-None g t c =
    none_drawn c.args.depth (g.S.Store.contents c.args.store.now) _ c.args.at c.args.page.now (ap (map unmoved) (sym c.in-None.ensures))

pub draw_within-returns-in_default : goal.draw_within-returns-in_default
draw_within-returns-in_default g t c =
    let store = g.S.Store.contents c.args.store.now in
    let d = c.in_default in
    none_drawn c.args.depth store _ c.args.at c.args.page.now
    (none_within store c.args.object.now d.not-WorkingSet d.not-DataMask d.not-AlarmMask d.not-Container d.not-Key d.not-Button d.not-InputList)
