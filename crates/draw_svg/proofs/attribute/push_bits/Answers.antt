use Rattle.std.proofs.Common.{◌∙◌, ◌≡◌, ◌++◌, Bool, ap, arith}
use Rattle.draw_svg.specs.Attributes.{bit_text, is_set}
use Rattle.draw_svg.proofs.Bits.{next_bit, no_bit}
use Rattle.draw_svg.proofs.attribute.push_bits.Goals as goal

pub is_set-requires : goal.is_set-requires
is_set-requires c = omega (arith, c.loop-bit.invariant.0, c.loop-bit-test.true)

pub loop-bit-preserved : goal.loop-bit-preserved
loop-bit-preserved c = (
  omega (arith, c.loop-bit.invariant.0, c.loop-bit-test.true),
  next_bit (λ bit. bit_text (is_set c.args.art bit) c.args.width) c.loop-bit.bit _ _ _ (omega (arith, c.loop-bit-test.true))
      (c.in_ok-push_bit.ensures ∙ ap (λ (b : Bool). c.loop-bit.out.items ++ bit_text b c.args.width) c.is_set.ensures) c.loop-bit.invariant.1,
)

pub returns : goal.returns
returns c =
    let none : c.loop-bit.bit ≡ 0 = omega (arith, c.loop-bit-test.false) in
    no_bit (λ bit. bit_text (is_set c.args.art bit) c.args.width) c.loop-bit.bit _ _ none c.loop-bit.invariant.1
