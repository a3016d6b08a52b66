use Rattle.std.proofs.Common.{◌≡◌, ◌+◌, ◌∷◌, ℕ, List, [], drop, refl, ap, sym, subst, ◌∙◌}
use Rattle.std.proofs.lemmas.List.{drop_all, drop_more}
use Rattle.draw_svg.specs.Images.{AppendsImages}
use Rattle.draw_svg.proofs.images.draw_images.Goals as goal

pub loop-id-preserved : goal.loop-id-preserved
loop-id-preserved g c = λ last are.
    let store = g.S.Store.contents c.args.store.now in
    let l = c.loop-id in
    let shape : drop l.id-index c.args.ids.now ≡ c.id-item.result ∷ drop (l.id-index + 1) c.args.ids.now =
    drop_more c.args.ids.now l.id-index c.id-item.result c.loop-id-test.true ∙ ap (λ (i : ℕ). i ∷ drop (l.id-index + 1) c.args.ids.now) (sym c.id-item.is) in
    l.invariant last (subst (λ (ids : List ℕ). AppendsImages store ids l.text.items last) (sym shape) (c.draw_image.new.text.items, c.in_ok-draw_image.ensures, are))

pub returns : goal.returns
returns g c =
    let store = g.S.Store.contents c.args.store.now in
    let l = c.loop-id in
    let none : drop l.id-index c.args.ids.now ≡ [] = drop_all l.id-index c.args.ids.now c.loop-id-test.false in
    l.invariant l.text.items (subst (λ (ids : List ℕ). AppendsImages store ids l.text.items l.text.items) (sym none) refl)
