-- Arcs of ellipses, in steps of 2 degrees (docs/PROFILE.md, "Angles"). Lengths are in tenths of a pixel.
use Rattle.std.specs.Prelude.{◌≤◌, ℕ, zero, suc, ◌+◌, ◌-◌, ◌*◌, ◌/◌, ◌%◌, ◌==◌, if◌then◌else◌, List, [], ◌∷◌, map, slice_index_or}
use Rattle.draw_svg.specs.declared.points.SvgPoint.{SvgPoint}
use Rattle.draw_shapes.specs.declared.shapes.arcs.Oval.{Oval}

-- the sines of the steps in a quarter of a circle, times 10,000
abbrev pub sines : List ℕ
sines =
    0 ∷ 349 ∷ 698 ∷ 1045 ∷ 1392 ∷ 1736 ∷ 2079 ∷ 2419 ∷ 2756 ∷ 3090 ∷ 3420 ∷ 3746 ∷ 4067 ∷ 4384 ∷ 4695 ∷ 5000 ∷ 5299
    ∷ 5592 ∷ 5878 ∷ 6157 ∷ 6428 ∷ 6691 ∷ 6947 ∷ 7193 ∷ 7431 ∷ 7660 ∷ 7880 ∷ 8090 ∷ 8290 ∷ 8480 ∷ 8660 ∷ 8829 ∷ 8988
    ∷ 9135 ∷ 9272 ∷ 9397 ∷ 9511 ∷ 9613 ∷ 9703 ∷ 9781 ∷ 9848 ∷ 9903 ∷ 9945 ∷ 9976 ∷ 9994 ∷ 10000 ∷ []

unfoldable pub sine : ℕ → ℕ
sine step = slice_index_or sines step 0

-- a length times a sine
abbrev pub projected : ℕ → ℕ → ℕ
projected length sine = length * sine / 10000

-- the point at a step of a quarter, counterclockwise from the right
abbrev pub in_quarter : Oval → ℕ → ℕ → SvgPoint
in_quarter o quarter step =
    if quarter == 0 then record { x = o.x + projected o.radius_x (sine (45 - step)); y = o.y - projected o.radius_y (sine step) }
    else if quarter == 1 then record { x = o.x - projected o.radius_x (sine step); y = o.y - projected o.radius_y (sine (45 - step)) }
    else if quarter == 2 then record { x = o.x - projected o.radius_x (sine (45 - step)); y = o.y + projected o.radius_y (sine step) }
    else record { x = o.x + projected o.radius_x (sine step); y = o.y + projected o.radius_y (sine (45 - step)) }

unfoldable pub point_on : Oval → ℕ → SvgPoint
point_on o step = in_quarter o (step / 45) (step % 45)

-- the steps from one angle to another, counterclockwise; a whole circle from an angle to itself
abbrev pub whole_if_none : ℕ → ℕ
whole_if_none steps = if steps == 0 then 180 else steps

abbrev pub sweep : ℕ → ℕ → ℕ
sweep start end = whole_if_none ((end % 180 + 180 - start % 180) % 180)

-- an angle, and those at some more steps, each the same turn from the one before
unfoldable pub angles : ℕ → ℕ → ℕ → List ℕ
angles turn angle zero = angle ∷ []
angles turn angle (suc steps) = angle ∷ angles turn ((angle + turn) % 180) steps

-- the points of an arc, counterclockwise
abbrev pub arc : Oval → ℕ → ℕ → List SvgPoint
arc o start steps = map (point_on o) (angles 1 (start % 180) steps)

-- the points of an arc, clockwise
abbrev pub arc_back : Oval → ℕ → ℕ → List SvgPoint
arc_back o end steps = map (point_on o) (angles 179 (end % 180) steps)

-- the ellipse is in the area of an object
pub record IsOval (o : Oval) : Type 0 where
  pub wide : o.radius_x ≤ o.x
  pub high : o.radius_y ≤ o.y
  pub most_x : o.x ≤ 400000
  pub most_y : o.y ≤ 400000
