use Rattle.std.proofs.Common.{◌≤◌, ◌+◌, length, ap, arith}
use Rattle.std.proofs.lemmas.Fmt.{length-decimal-le}
use Rattle.vt_layout.proofs.line_end.LineEnd.put_signed.Goals as goal
use Rattle.vt_layout.proofs.line_end.LineEnd.put_signed.Goals.{then-number-lt0, else-number-lt0}

pub put_digits-requires : goal.put_digits-requires
put_digits-requires c =
    let bound = c.unsigned_abs.ensures.bound in
    let is = c.from.ensures in
    omega (arith, length-decimal-le 10 c.from.result (omega arith) (omega arith) (omega arith))

pub put_byte-requires : goal.put_byte-requires
put_byte-requires c =
    let bound = c.unsigned_abs.ensures.bound in
    let is = c.from.ensures in
    let len = c.put_digits.ensures.len in
    omega (arith, length-decimal-le 10 c.from.result (omega arith) (omega arith) (omega arith))

-- with its digits and its sign the number takes at most 11 bytes
signed_length : (c : goal.After-put_byte-arg-2-1) → length c.if-number-lt0.self ≤ length c.args.self.now + 11
signed_length c =
    let bound = c.unsigned_abs.ensures.bound in
    let is = c.from.ensures in
    let len = c.put_digits.ensures.len in
    let digits = length-decimal-le 10 c.from.result (omega arith) (omega arith) (omega arith) in
    elim c.if-number-lt0.branch [
      | then-number-lt0 w ↦ let same = ap length w.self-is in let minus = w.put_byte.ensures.len in omega (arith, digits)
      | else-number-lt0 w ↦ let same = ap length w.self-is in omega (arith, digits)
    ]

pub put_byte-requires-2 : goal.put_byte-requires-2
put_byte-requires-2 c = omega (arith, signed_length c)

pub returns-clause-short : goal.returns-clause-short
returns-clause-short c =
    let last = c.put_byte-2.ensures.len in
    omega (arith, signed_length c.before)
