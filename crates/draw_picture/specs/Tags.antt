-- The tags of elements, in their order.
use Rattle.std.specs.Prelude.{◌≡◌, ◌-◌, List, [], ◌∷◌, ◌++◌}
use Rattle.draw_picture.specs.declared.walk.Tag.{Tag}
use Rattle.draw_picture.specs.declared.walk.Tag.TheVariants.{Open, Close}
use Rattle.draw_picture.specs.declared.walk.Walk.{Walk}
use Rattle.draw_picture.specs.Marks.{Marks, Nothing, Mark, cut, count}

-- each element is closed after those within it
abbrev pub tags_of : Marks → List Tag
tags_of Nothing = []
tags_of (Mark entry inside later) = Open entry ∷ (tags_of inside ++ Close ∷ tags_of later)

-- the tags of the marks that fit are after those of a walk so far
pub record Walks (marks : Marks) (old new : Walk) : Type 0 where
  pub tags : new.tags.items ≡ old.tags.items ++ tags_of (cut old.left marks)
  pub left : new.left ≡ old.left - count (cut old.left marks)
