use Rattle.std.proofs.Common.{arith}
use Rattle.std.proofs.lemmas.Fmt.{length-decimal-le}
use Rattle.vt_layout.proofs.line_end.LineEnd.put_number.Goals as goal

pub put_digits-requires : goal.put_digits-requires
put_digits-requires c =
    let fits = c.ranges.number.fits in
    let is = c.from.ensures in
    omega (arith, length-decimal-le 5 c.from.result (omega arith) (omega arith) (omega arith))

pub put_byte-requires : goal.put_byte-requires
put_byte-requires c =
    let fits = c.ranges.number.fits in
    let is = c.from.ensures in
    let len = c.put_digits.ensures.len in
    omega (arith, length-decimal-le 5 c.from.result (omega arith) (omega arith) (omega arith))

pub returns-clause-short : goal.returns-clause-short
returns-clause-short c =
    let fits = c.ranges.number.fits in
    let is = c.from.ensures in
    let len = c.put_digits.ensures.len in
    let last = c.put_byte.ensures.len in
    omega (arith, length-decimal-le 5 c.from.result (omega arith) (omega arith) (omega arith))
