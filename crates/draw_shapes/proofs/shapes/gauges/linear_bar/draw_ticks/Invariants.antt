use Rattle.std.proofs.Common.{◌≡◌, ◌++◌}
use Rattle.draw_svg.specs.Elements.{text_of}
use Rattle.draw_shapes.specs.Gauges.{bar_tick, each_below}
use Rattle.draw_shapes.proofs.shapes.gauges.linear_bar.draw_ticks.Given as goal

abbrev pub invariant-loop-i : goal.invariant-loop-i
invariant-loop-i l = l.text.items ≡ l.fn.text.items ++ text_of (each_below (bar_tick l.bar) l.i)
