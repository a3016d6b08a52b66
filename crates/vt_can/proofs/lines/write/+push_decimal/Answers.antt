use Rattle.std.proofs.Common.{◌≡◌, ◌+◌, ◌/◌, ◌%◌, ◌∷◌, [], ap, arith, append_assoc}
use Rattle.std.proofs.lemmas.Fmt.{decimal_digit, decimal_step}
use Rattle.std.specs.Fmt.{decimal}
use Rattle.arrayvec.specs.ArrayVec.{array_vec_len}
use Rattle.vt_can.proofs.lemmas.lines.WrittenDigits.{length-decimal-one, length-decimal-step}
use Rattle.vt_can.proofs.lines.write.+push_decimal.Goals as goal
use Rattle.vt_can.proofs.lines.write.+push_decimal.Goals.{then-n-ge10, else-n-ge10}

pub push_decimal-requires : goal.push_decimal-requires
push_decimal-requires t c =
    let len = length-decimal-step c.args.n c.if-n-ge10.true (omega arith) in
    (omega arith, omega arith)

pub push-requires : goal.push-requires
push-requires t c = (
  omega arith,
  elim c.if-n-ge10.branch [
    | then-n-ge10 w ↦
        let len = length-decimal-step c.args.n w.if-n-ge10.true (omega arith) in
        let same = ap array_vec_len w.text-is in
        omega (arith, w.push_decimal.ensures.counted)
    | else-n-ge10 w ↦
        let len = length-decimal-one c.args.n (omega arith) in
        let same = ap array_vec_len w.text-is in
        omega arith
  ],
)

pub returns-clause-written : goal.returns-clause-written
returns-clause-written t c =
    let n = c.args.n in
    elim c.if-n-ge10.branch [
      | then-n-ge10 w ↦
          let step = decimal_step n w.if-n-ge10.true (omega arith) in
          let joins = append_assoc c.args.text.now.items (decimal (n / 10)) ((48 + n % 10) ∷ []) in
          cc (w.push_decimal.ensures.written, c.push.ensures.items, w.text-is)
      | else-n-ge10 w ↦
          let one = decimal_digit n (omega arith) in
          let same : n % 10 ≡ n = omega arith in
          cc (c.push.ensures.items, w.text-is)
    ]

pub returns-clause-counted : goal.returns-clause-counted
returns-clause-counted t c =
    elim c.if-n-ge10.branch [
      | then-n-ge10 w ↦
          let len = length-decimal-step c.args.n w.if-n-ge10.true (omega arith) in
          let same = ap array_vec_len w.text-is in
          omega (arith, w.push_decimal.ensures.counted, c.push.ensures.len)
      | else-n-ge10 w ↦
          let len = length-decimal-one c.args.n (omega arith) in
          let same = ap array_vec_len w.text-is in
          omega (arith, c.push.ensures.len)
    ]
