use Rattle.std.proofs.Common.{◌≡◌, drop}
use Rattle.draw_picture.specs.Pictures.{with_tags}
use Rattle.draw_picture.proofs.elements.draw_tags.Given as goal

abbrev pub invariant-loop-tag : goal.invariant-loop-tag
invariant-loop-tag g l =
    let store = g.S.Store.contents l.store in
    with_tags l.sizes store l.text.items (drop l.tag-index l.tags) ≡ with_tags l.sizes store l.fn.text.items l.tags
