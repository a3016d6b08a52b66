use Rattle.std.proofs.Common.{List, ℕ, drop}
use Rattle.draw_svg.specs.Images.{AppendsImages}
use Rattle.draw_svg.proofs.images.draw_images.Given as goal

-- what comes of the text so far and of the pictures that are left is what comes of all
abbrev pub invariant-loop-id : goal.invariant-loop-id
invariant-loop-id g l =
    let store = g.S.Store.contents l.store in
    (last : List ℕ) → AppendsImages store (drop l.id-index l.ids) l.text.items last → AppendsImages store l.ids l.fn.text.items last
