use Rattle.std.proofs.Common.{sym, ap, map, refl}
use Rattle.vt_layout.specs.Drawings.{origin, unmoved}
use Rattle.vt_layout.specs.PageTexts.{with_elements}
use Rattle.vt_layout.specs.Walks.{elements}
use Rattle.vt_layout.proofs.EntriesOnPage.{level, keys_next}
use Rattle.vt_layout.proofs.drawing.draw_keys.Goals as goal

pub loop-place-init : goal.loop-place-init
loop-place-init g c =
    let store = g.S.Store.contents c.args.store.now in
    ap (λ es. with_elements store es c.args.page.now) (sym (level 32 31 store (map unmoved c.args.keys.now) origin refl))

pub loop-place-preserved : goal.loop-place-preserved
loop-place-preserved g c =
    let store = g.S.Store.contents c.args.store.now in
    keys_next store c.args.keys.now c.loop-place.place c.index-keys-place.result _ c.loop-place.page c.draw_entry.new.page
    (with_elements store (elements 32 store (map unmoved c.args.keys.now) origin) c.args.page.now)
    c.loop-place-test.true (sym c.index-keys-place.is) c.loop-place.invariant c.in_ok-draw_entry.ensures
