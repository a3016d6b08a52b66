use Rattle.std.proofs.Common.{◌≡◌, length, arith, refl, ap, ◌∙◌}
use Rattle.std.proofs.lemmas.Grind.{common_steps}
use Rattle.std.proofs.lemmas.List.{take_all}
use Rattle.hex.specs.Hex.{encode_lower, lower_digits}
use Rattle.hex.proofs.HexLemmas.{length-encode_with}
use Rattle.vt_can.proofs.lemmas.lines.WrittenDigits.{uppercase-encode_lower}
use Rattle.vt_can.proofs.lines.write.push_digits.Goals as goal
use Rattle.vt_can.proofs.lines.write.push_digits.Goals.{After-encode_to_slice}

-- the digits are in the buffer
written : (c : After-encode_to_slice) → c.encode_to_slice.new.output ≡ encode_lower c.args.bytes.now
written c = grind (arith, common_steps)

pub returns-clause-written : goal.returns-clause-written
returns-clause-written c =
    let digits = written (goal.at.returns-clause-written c).After-encode_to_slice in
    let all = take_all c.loop-digit.digit-index c.encode_to_slice.new.output c.loop-digit-test.false in
    c.loop-digit.invariant.written ∙ rw (all, digits, uppercase-encode_lower c.args.bytes.now) refl

pub returns-clause-counted : goal.returns-clause-counted
returns-clause-counted c =
    let digits = written (goal.at.returns-clause-counted c).After-encode_to_slice in
    let len = ap length digits ∙ length-encode_with lower_digits c.args.bytes.now in
    omega (arith, c.loop-digit.invariant.counted)
