use Rattle.std.proofs.lemmas.Result.{on_ok_weaker}
use Rattle.draw_svg.specs.Elements.{when}
use Rattle.draw_shapes.specs.Bits.{has_bit}
use Rattle.draw_shapes.specs.Gauges.{arch_border, arch_part, arch_target}
use Rattle.draw_shapes.proofs.Gauges.{three_written}
use Rattle.draw_shapes.proofs.shapes.gauges.arched_bar.draw_arched_bar.Goals as goal

pub returns : goal.returns
returns g c =
    let o = c.args.bar.now in
    let store = g.S.Store.contents c.args.store.now in
    on_ok_weaker c.draw_target_if_set.result
    (λ made.
    three_written (arch_part store o) (when (has_bit o.options 0) (arch_border o)) (when (has_bit o.options 1) (arch_target store o))
    _ _ _ _ c.in_ok-draw_value.ensures c.in_ok-draw_border_if_set.ensures made)
    c.draw_target_if_set.ensures
