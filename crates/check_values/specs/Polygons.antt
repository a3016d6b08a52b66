-- The points of Polygons (docs/PROFILE.md, "Warnings").
use Rattle.std.specs.Prelude.{ℕ, nat_lt, ◌||◌, if◌then◌else◌, List, [], ◌∷◌, length}
use Rattle.vt_kinds.specs.declared.entries.Point.{Point}
use Rattle.vt_kinds.specs.declared.object.Object.TheVariants as object
use Rattle.vt_kinds.specs.Records.{Seen}
use Rattle.check_values.specs.Listed.{each_from}
use Rattle.check_values.specs.declared.warning.PointOutside.{PointOutside}
use Rattle.check_values.specs.declared.warning.ValueWarning.{ValueWarning}
use Rattle.check_values.specs.declared.warning.ValueWarning.TheVariants as warnings

-- a Polygon of fewer than three points
abbrev pub few_points : ℕ → Seen → List ValueWarning
few_points id (object.Polygon o) = if nat_lt (length o.points) 3 then warnings.FewPoints id (length o.points) ∷ [] else []
few_points id o = []

abbrev pub point_outside : ℕ → ℕ → ℕ → ℕ → Point → PointOutside
point_outside id width height index point = record { id = id; index = index; point = point; width = width; height = height }

-- a point to the right of an area or below it
abbrev pub unless_inside : ℕ → ℕ → ℕ → ℕ → Point → List ValueWarning
unless_inside id width height index point =
    if nat_lt width point.x || nat_lt height point.y then warnings.PointOutside (point_outside id width height index point) ∷ [] else []

-- the points of a Polygon that are outside of its area
abbrev pub points_outside : ℕ → Seen → List ValueWarning
points_outside id (object.Polygon o) = each_from (unless_inside id o.width o.height) 0 o.points
points_outside id o = []
