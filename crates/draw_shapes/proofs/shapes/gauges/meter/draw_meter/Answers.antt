use Rattle.std.proofs.lemmas.Result.{on_ok_weaker}
use Rattle.draw_svg.specs.Elements.{when}
use Rattle.draw_shapes.specs.Bits.{has_bit}
use Rattle.draw_shapes.specs.Gauges.{each_below, meter_arc, meter_border, meter_tick, needle}
use Rattle.draw_shapes.proofs.Gauges.{four_written}
use Rattle.draw_shapes.proofs.shapes.gauges.meter.draw_meter.Goals as goal

pub returns : goal.returns
returns g c =
    let o = c.args.meter.now in
    on_ok_weaker c.draw_needle.result
    (λ made.
    four_written (when (has_bit o.options 0) (meter_arc o)) (when (has_bit o.options 1) (meter_border o)) (when (has_bit o.options 2) (each_below (meter_tick o) o.ticks))
    (needle (g.S.Store.contents c.args.store.now) o) _ _ _ _ _ c.in_ok-draw_arc_if_set.ensures c.in_ok-draw_border_if_set.ensures c.in_ok-draw_ticks_if_set.ensures made)
    c.draw_needle.ensures
