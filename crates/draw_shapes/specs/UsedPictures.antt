-- The pictures that the shapes of objects refer to.
use Rattle.std.specs.Prelude.{ℕ, Option, Some, None}
use Rattle.std.specs.FinMap as finite
use Rattle.vt_kinds.specs.declared.object.Object.TheVariants as objects
use Rattle.vt_kinds.specs.Records.{Seen}
use Rattle.vt_stores.specs.Stores.{ObjectMap}
use Rattle.draw_svg.specs.declared.attribute.Paint.{Paint}
use Rattle.draw_svg.specs.declared.attribute.Paint.TheVariants.{Pattern}
use Rattle.draw_shapes.specs.Pens.{fill_of, no_pen}

abbrev pub pattern_in : Paint → Option ℕ
pattern_in (Pattern id) = Some id
pattern_in _ = None

-- the pattern of some fill attributes
abbrev pub pattern_used : ObjectMap → ℕ → Option ℕ
pattern_used store attributes = pattern_in (fill_of store (finite.get store attributes) no_pen)

-- a Picture itself, or the pattern that fills a shape
abbrev pub used_picture : ObjectMap → ℕ → Seen → Option ℕ
used_picture store id (objects.Picture o) = Some id
used_picture store id (objects.Rectangle o) = pattern_used store o.fill
used_picture store id (objects.Ellipse o) = pattern_used store o.fill
used_picture store id (objects.Polygon o) = pattern_used store o.fill
used_picture store id _ = None
