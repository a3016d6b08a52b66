use Rattle.std.proofs.Common.{◌≡◌, ◌++◌, drop}
use Rattle.check_values.specs.Polygons.{unless_inside}
use Rattle.check_values.specs.Listed.{each_from}
use Rattle.check_values.proofs.polygons.put_outside.Given as goal

abbrev pub invariant-loop-index : goal.invariant-loop-index
invariant-loop-index l =
    l.fn.found.items ++ each_from (unless_inside l.id l.width l.height) 0 l.points ≡ l.found.items ++ each_from (unless_inside l.id l.width l.height) l.index (drop l.index l.points)
