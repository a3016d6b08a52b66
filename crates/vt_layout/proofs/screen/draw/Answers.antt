use Rattle.std.proofs.Common.{◌≡◌, ◌++◌, ◌∙◌, None, map, subst, ap}
use Rattle.std.specs.FinMap as finite
use Rattle.vt_kinds.specs.Ids.{null_id}
use Rattle.vt_stores.specs.Stores.{ObjectMap}
use Rattle.vt_layout.specs.Lines.{line}
use Rattle.vt_layout.specs.Screens.{heading, shortened}
use Rattle.vt_layout.specs.Walks.{drawing}
use Rattle.vt_layout.proofs.EntriesOnPage.{gains, when_ok}
use Rattle.vt_layout.proofs.screen.draw.Goals as goal

pub returns-clause-drawn : goal.returns-clause-drawn
returns-clause-drawn g c =
    let same = c.store.ensures.objects in
    let mask = c.active_mask.result in
    when_ok c.extend_from_slice.result _ _ _ c.extend_from_slice.ensures.items
    (λ gained. gains c.args.address c.args.live.now.objects mask c.args.out.now.items c.extend_from_slice.new.self.items c.in_ok-text.text.items c.store.ensures.sound
    (subst (λ (store : ObjectMap). finite.get store null_id ≡ None) same c.in_ok-text.ensures.named) c.active_mask.ensures.mask
    (c.in_ok-text.ensures.text ∙ ap (λ (store : ObjectMap). heading c.args.address mask ++ shortened (map (line store) (drawing store mask))) same)
    (gained ∙ ap (λ text. c.args.out.now.items ++ text) c.deref.ensures.value))
