use Rattle.std.proofs.Common.{◌≡◌, ◌<◌, ◌%◌, ◌++◌, map}
use Rattle.std.specs.List.{flat_map}
use Rattle.draw_svg.specs.Elements.{point_text}
use Rattle.draw_shapes.specs.Arcs.{angles, point_on}
use Rattle.draw_shapes.proofs.shapes.arcs.push_turned.Given as goal

abbrev pub invariant-loop-left : goal.invariant-loop-left
invariant-loop-left l =
    (l.step < 180)
    × (l.text.items ++ flat_map (λ a. point_text (point_on l.oval a)) (angles l.turn l.step l.left) ≡ l.fn.text.items ++ flat_map point_text (map (point_on l.oval) (angles l.turn (l.fn.start % 180) l.fn.steps)))

abbrev pub decreases-loop-left : goal.decreases-loop-left
decreases-loop-left l = l.left
