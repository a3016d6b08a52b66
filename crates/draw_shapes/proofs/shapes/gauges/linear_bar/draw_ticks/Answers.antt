use Rattle.draw_shapes.specs.Gauges.{bar_tick}
use Rattle.draw_shapes.proofs.Gauges.{next_below}
use Rattle.draw_shapes.proofs.shapes.gauges.linear_bar.draw_ticks.Goals as goal

pub loop-i-preserved : goal.loop-i-preserved
loop-i-preserved c = next_below (bar_tick c.args.bar.now) c.loop-i.i _ _ _ c.loop-i.invariant c.in_ok-draw_tick.ensures
