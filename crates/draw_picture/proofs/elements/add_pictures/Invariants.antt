use Rattle.std.proofs.Common.{◌≡◌, drop}
use Rattle.draw_picture.specs.Pictures.{with_pictures}
use Rattle.draw_picture.proofs.elements.add_pictures.Given as goal

abbrev pub invariant-loop-tag : goal.invariant-loop-tag
invariant-loop-tag g l =
    let store = g.S.Store.contents l.store in
    with_pictures store l.ids.items (drop l.tag-index l.tags) ≡ with_pictures store l.fn.ids.items l.tags
