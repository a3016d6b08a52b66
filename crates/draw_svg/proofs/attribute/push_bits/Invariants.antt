use Rattle.std.proofs.Common.{◌≡◌, ◌++◌, ◌≤◌}
use Rattle.std.specs.List.{flat_map}
use Rattle.draw_svg.specs.Attributes.{below, bit_text, is_set, line_art}
use Rattle.draw_svg.proofs.attribute.push_bits.Given as goal

abbrev pub invariant-loop-bit : goal.invariant-loop-bit
invariant-loop-bit l =
    (l.bit ≤ 16) × (l.out.items ++ flat_map (λ bit. bit_text (is_set l.fn.art bit) l.fn.width) (below l.bit) ≡ l.fn.out.items ++ line_art l.fn.art l.fn.width)

abbrev pub decreases-loop-bit : goal.decreases-loop-bit
decreases-loop-bit l = l.bit
