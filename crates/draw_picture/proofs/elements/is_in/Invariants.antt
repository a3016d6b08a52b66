use Rattle.std.proofs.Common.{◌≡◌, drop}
use Rattle.draw_picture.specs.Pictures.{is_in}
use Rattle.draw_picture.proofs.elements.is_in.Given as goal

abbrev pub invariant-loop-other : goal.invariant-loop-other
invariant-loop-other l = is_in l.id (drop l.other-index l.ids) ≡ is_in l.id l.ids
