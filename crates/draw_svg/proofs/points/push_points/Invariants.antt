use Rattle.std.proofs.Common.{◌≡◌, ◌++◌, drop}
use Rattle.std.specs.List.{flat_map}
use Rattle.draw_svg.specs.Elements.{point_text}
use Rattle.draw_svg.proofs.points.push_points.Given as goal

abbrev pub invariant-loop-each : goal.invariant-loop-each
invariant-loop-each l = l.out.items ++ flat_map point_text (drop l.each-index l.points) ≡ l.fn.out.items ++ flat_map point_text l.points
