use Rattle.std.proofs.Common.{ℕ, ◌-◌, ◌++◌, ◌%◌, ap, sym, ◌∙◌, arith, rules}
use Rattle.std.proofs.lemmas.Result.{on_ok_weaker}
use Rattle.std.specs.List.{flat_map}
use Rattle.draw_svg.specs.Elements.{point_text}
use Rattle.draw_shapes.specs.Arcs.{angles, point_on}
use Rattle.draw_shapes.proofs.Arcs.{next_angle, last_angle, through}
use Rattle.draw_shapes.proofs.shapes.arcs.push_turned.Goals as goal

pub loop-left-init : goal.loop-left-init
loop-left-init c = (
  search rules,
  ap (λ l. c.args.text.now.items ++ l) (sym (through point_text (point_on c.args.oval) (angles c.args.turn (c.args.start % 180) c.args.steps))),
)

pub loop-left-preserved : goal.loop-left-preserved
loop-left-preserved c = (
  search rules,
  ap (λ (step : ℕ). c.push_point.new.out.items ++ flat_map (λ a. point_text (point_on c.args.oval a)) (angles c.args.turn step (c.loop-left.left - 1))) c.turned_by-step.ensures.is
      ∙ next_angle (λ a. point_text (point_on c.args.oval a)) c.args.turn c.loop-left.step c.loop-left.left _ _ _ (omega (arith, c.loop-left-test.true)) (search rules) c.loop-left.invariant.1,
)

pub returns : goal.returns
returns c =
    on_ok_weaker c.push_point-2.result
    (λ made. last_angle (λ a. point_text (point_on c.args.oval a)) c.args.turn c.loop-left.step c.loop-left.left _ _ _ (omega (arith, c.loop-left-test.false)) (search rules) c.loop-left.invariant.1)
    c.push_point-2.ensures
