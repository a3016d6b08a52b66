use Rattle.std.proofs.Common.{◌≡◌, ◌<◌, ◌^◌, true, get_or, take, length, sym, ap, ◌∙◌, arith, subst}
use Rattle.std.specs.Char.{is_ascii_digit}
use Rattle.std.specs.List.{AllPass}
use Rattle.std.specs.Str.Parse.{digits_value}
use Rattle.std.proofs.lemmas.Int.Digits.{digits_value_more}
use Rattle.std.proofs.lemmas.List.{length-take, take_all}
use Rattle.std.proofs.lemmas.List.Elements.{All-more}
use Rattle.std.proofs.lemmas.List.Sums.{list_all-from_AllPass}
use Rattle.vt_dialogs.proofs.TypedDigits.{below_power, digit_value-is, value_below}
use Rattle.vt_dialogs.proofs.typed_text.digits_of.Goals as goal
use Rattle.vt_dialogs.proofs.typed_text.digits_of.Goals.{After-loop-byte, Else-not-is_ascii_digit}

small : (c : Else-not-is_ascii_digit) → c.loop-byte.value < 10 ^ 15
small c =
    let front = take c.loop-byte.byte-index c.args.text.now in
    let len = length-take c.loop-byte.byte-index c.args.text.now in
    let below = below_power (digits_value 10 front) (length front) 15 (value_below front c.loop-byte.invariant.digits) (omega arith) in
    omega (arith, c.loop-byte.invariant.value_is)

digit : (c : Else-not-is_ascii_digit) → is_ascii_digit (get_or c.args.text.now c.loop-byte.byte-index 0) ≡ true
digit c = sym c.is_ascii_digit.ensures.value ∙ c.if-not-is_ascii_digit.false

pub overflow_mul-value : goal.overflow_mul-value
overflow_mul-value c = let below = small c in omega arith

pub overflow_add-value : goal.overflow_add-value
overflow_add-value c =
    let here = (goal.at.overflow_add-value c).Else-not-is_ascii_digit in
    let below = small here in
    let one = digit_value-is (get_or c.args.text.now c.loop-byte.byte-index 0) (digit here) in
    omega arith

pub loop-byte-preserved : goal.loop-byte-preserved
loop-byte-preserved c =
    let text = c.args.text.now in
    let i = c.loop-byte.byte-index in
    let here = (goal.at.loop-byte-preserved c).Else-not-is_ascii_digit in
    let one = digit_value-is (get_or text i 0) (digit here) in
    let more = digits_value_more 10 text i c.loop-byte-test.true in
    record {
      digits = All-more (λ x. is_ascii_digit x ≡ true) text i 0 c.loop-byte-test.true c.loop-byte.invariant.digits (digit here);
      value_is = omega (arith, c.loop-byte.invariant.value_is);
    }

whole : (c : After-loop-byte) → take c.loop-byte.byte-index c.args.text.now ≡ c.args.text.now
whole c = take_all c.loop-byte.byte-index c.args.text.now c.loop-byte-test.false

passes : (c : After-loop-byte) → AllPass is_ascii_digit c.args.text.now
passes c = subst (AllPass is_ascii_digit) (whole c) c.loop-byte.invariant.digits

value : (c : After-loop-byte) → c.loop-byte.value ≡ digits_value 10 c.args.text.now
value c = c.loop-byte.invariant.value_is ∙ ap (digits_value 10) (whole c)

pub returns-clause-value : goal.returns-clause-value
returns-clause-value c =
    let all = list_all-from_AllPass is_ascii_digit c.args.text.now (passes c) in
    let is = value c in
    grind (arith, all, is)

pub returns-clause-most : goal.returns-clause-most
returns-clause-most c = let below = value_below c.args.text.now (passes c) in omega (arith, below, value c)
