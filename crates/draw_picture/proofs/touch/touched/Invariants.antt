use Rattle.std.proofs.Common.{◌≡◌, drop}
use Rattle.draw_picture.specs.Listings.{or_else, touched}
use Rattle.draw_picture.proofs.touch.touched.Given as goal

abbrev pub invariant-loop-element : goal.invariant-loop-element
invariant-loop-element l = or_else (touched l.x l.y (drop l.element-index l.elements)) l.found ≡ touched l.x l.y l.elements
