use Rattle.draw_shapes.specs.Gauges.{meter_tick}
use Rattle.draw_shapes.proofs.Gauges.{next_below}
use Rattle.draw_shapes.proofs.shapes.gauges.meter.draw_ticks.Goals as goal

pub loop-i-preserved : goal.loop-i-preserved
loop-i-preserved c = next_below (meter_tick c.args.meter.now) c.loop-i.i _ _ _ c.loop-i.invariant c.in_ok-draw_tick.ensures
