use Rattle.std.proofs.Common.{◌≡◌, ◌+◌, true, get_or, sym, ◌∙◌, arith}
use Rattle.std.specs.Char.{is_ascii_digit}
use Rattle.std.proofs.lemmas.Int.Digits.{digits_value_more}
use Rattle.std.proofs.lemmas.List.Elements.{All-more}
use Rattle.std.proofs.lemmas.Str.Parse.{digits_value-take-le}
use Rattle.vt_can.proofs.lemmas.lines.Digits.{digit_value-is}
use Rattle.vt_can.proofs.lines.digits.decimal.Goals as goal
use Rattle.vt_can.proofs.lines.digits.decimal.Goals.{Else-not-is_ascii_digit}

-- the byte at this index is a digit
digit : (c : Else-not-is_ascii_digit) → is_ascii_digit (get_or c.args.text.now c.loop-byte.byte-index 0) ≡ true
digit c = sym c.is_ascii_digit.ensures.value ∙ c.if-not-is_ascii_digit.false

-- the value read so far is above `most`, and the whole number is no smaller
pub returns-then-value-from : goal.returns-then-value-from
returns-then-value-from c = λ n is.
    let text = c.args.text.now in
    let i = c.loop-byte.byte-index in
    let here = (goal.at.returns-then-value-from c).Else-not-is_ascii_digit in
    let one = digit_value-is (get_or text i 0) (digit here) in
    let more = digits_value_more 10 text i c.loop-byte-test.true in
    let below = digits_value-take-le 10 text (i + 1) (omega arith) in
    let value = is.value in
    let fits = is.fits in
    omega (arith, c.loop-byte.invariant.value_is)

pub loop-byte-preserved : goal.loop-byte-preserved
loop-byte-preserved c =
    let text = c.args.text.now in
    let i = c.loop-byte.byte-index in
    let here = (goal.at.loop-byte-preserved c).Else-not-is_ascii_digit in
    let one = digit_value-is (get_or text i 0) (digit here) in
    let more = digits_value_more 10 text i c.loop-byte-test.true in
    record {
      digits = All-more (λ x. is_ascii_digit x ≡ true) text i 0 c.loop-byte-test.true c.loop-byte.invariant.digits (digit here);
      value_is = omega (arith, c.loop-byte.invariant.value_is);
      fits = omega arith;
    }
