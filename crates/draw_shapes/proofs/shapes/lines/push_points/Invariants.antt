use Rattle.std.proofs.Common.{◌≡◌, ◌++◌, drop, map}
use Rattle.std.specs.List.{flat_map}
use Rattle.draw_svg.specs.Elements.{point_text}
use Rattle.draw_shapes.specs.Lines.{middle}
use Rattle.draw_shapes.proofs.shapes.lines.push_points.Given as goal

abbrev pub invariant-loop-point : goal.invariant-loop-point
invariant-loop-point l =
    l.text.items ++ flat_map point_text (map middle (drop l.point-index l.points)) ≡ l.fn.text.items ++ flat_map point_text (map middle l.points)
