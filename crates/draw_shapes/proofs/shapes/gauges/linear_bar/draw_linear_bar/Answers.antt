use Rattle.std.proofs.lemmas.Result.{on_ok_weaker}
use Rattle.draw_svg.specs.Elements.{when}
use Rattle.draw_shapes.specs.Bits.{has_bit}
use Rattle.draw_shapes.specs.Gauges.{bar_border, bar_target, bar_tick, each_below, value_part}
use Rattle.draw_shapes.proofs.Gauges.{four_written}
use Rattle.draw_shapes.proofs.shapes.gauges.linear_bar.draw_linear_bar.Goals as goal

pub returns : goal.returns
returns g c =
    let o = c.args.bar.now in
    let store = g.S.Store.contents c.args.store.now in
    on_ok_weaker c.draw_target_if_set.result
    (λ made.
    four_written (value_part store o) (when (has_bit o.options 0) (bar_border o)) (when (has_bit o.options 2) (each_below (bar_tick o) o.ticks))
    (when (has_bit o.options 1) (bar_target store o)) _ _ _ _ _ c.in_ok-draw_value.ensures c.in_ok-draw_border_if_set.ensures c.in_ok-draw_ticks_if_set.ensures made)
    c.draw_target_if_set.ensures
