use Rattle.std.proofs.Common.{◌≡◌, ◌<◌, ◌^◌, true, get_or, take, sym, ◌∙◌, arith}
use Rattle.std.specs.Char.{is_ascii_digit}
use Rattle.std.proofs.lemmas.Int.Digits.{digits_value_more}
use Rattle.std.proofs.lemmas.List.{length-take}
use Rattle.std.proofs.lemmas.List.Elements.{All-more}
use Rattle.vt_can.proofs.lemmas.lines.Digits.{digit_value-is, digits_value-small}
use Rattle.vt_can.proofs.lines.digits.number.Goals as goal
use Rattle.vt_can.proofs.lines.digits.number.Goals.{Else-not-is_ascii_digit}

-- up to 18 digits have been read
small : (c : Else-not-is_ascii_digit) → c.loop-byte.value < 10 ^ 18
small c =
    let text = c.args.text.now in
    let front = take c.loop-byte.byte-index text in
    let len = length-take c.loop-byte.byte-index text in
    let below = digits_value-small front 18 c.loop-byte.invariant.digits (omega arith) in
    omega (arith, c.loop-byte.invariant.value_is)

-- the byte at this index is a digit
digit : (c : Else-not-is_ascii_digit) → is_ascii_digit (get_or c.args.text.now c.loop-byte.byte-index 0) ≡ true
digit c = sym c.is_ascii_digit.ensures.value ∙ c.if-not-is_ascii_digit.false

pub overflow_mul-value : goal.overflow_mul-value
overflow_mul-value c = let below = small c in omega arith

pub overflow_add-value : goal.overflow_add-value
overflow_add-value c =
    let here = (goal.at.overflow_add-value c).Else-not-is_ascii_digit in
    let below = small here in
    let one = digit_value-is (get_or c.args.text.now c.loop-byte.byte-index 0) (digit here) in
    omega arith

pub loop-byte-preserved : goal.loop-byte-preserved
loop-byte-preserved c =
    let text = c.args.text.now in
    let i = c.loop-byte.byte-index in
    let here = (goal.at.loop-byte-preserved c).Else-not-is_ascii_digit in
    let one = digit_value-is (get_or text i 0) (digit here) in
    let more = digits_value_more 10 text i c.loop-byte-test.true in
    record {
      digits = All-more (λ x. is_ascii_digit x ≡ true) text i 0 c.loop-byte-test.true c.loop-byte.invariant.digits (digit here);
      value_is = omega (arith, c.loop-byte.invariant.value_is);
    }
