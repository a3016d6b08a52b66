use Rattle.std.proofs.Common.{◌≡◌, ◌++◌}
use Rattle.draw_svg.specs.Elements.{text_of}
use Rattle.draw_shapes.specs.Gauges.{each_below, meter_tick}
use Rattle.draw_shapes.proofs.shapes.gauges.meter.draw_ticks.Given as goal

abbrev pub invariant-loop-i : goal.invariant-loop-i
invariant-loop-i l = l.text.items ≡ l.fn.text.items ++ text_of (each_below (meter_tick l.meter) l.i)
