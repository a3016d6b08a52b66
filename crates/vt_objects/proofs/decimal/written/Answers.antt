use Rattle.std.proofs.Common.{◌<◌, ◌/◌, ◌%◌, length, ap, subst, ℕ, arith}
use Rattle.std.proofs.lemmas.Fmt.{length-decimal-le}
use Rattle.std.proofs.Math.Nat.{mod-lt}
use Rattle.vt_objects.proofs.decimal.written.Goals as goal

pub nonzero_div-magnitude : goal.nonzero_div-magnitude
nonzero_div-magnitude c = c.requires.some

pub nonzero_rem-magnitude : goal.nonzero_rem-magnitude
nonzero_rem-magnitude c = c.requires.some

pub push_str-requires : goal.push_str-requires
push_str-requires c =
    let short = length-decimal-le 10 (c.args.magnitude / c.args.unit) (omega arith) c.requires.whole (omega (arith, c.requires.whole)) in
    let digits = ap length c.format.ensures.text in
    (omega arith, omega (arith, c.sign-text.ensures.most))

pub push_fraction-requires-clause-fraction : goal.push_fraction-requires-clause-fraction
push_fraction-requires-clause-fraction c = subst (λ (u : ℕ). c.args.magnitude % c.args.unit < u) c.requires.unit (mod-lt c.args.magnitude c.requires.some)

pub push_fraction-requires-clause-spare : goal.push_fraction-requires-clause-spare
push_fraction-requires-clause-spare c =
    let short = length-decimal-le 10 (c.args.magnitude / c.args.unit) (omega arith) c.requires.whole (omega (arith, c.requires.whole)) in
    let digits = ap length c.format.ensures.text in
    omega (arith, c.sign-text.ensures.most, c.push_str.ensures.len)

pub returns-then-decimals-gt0-clause-most : goal.returns-then-decimals-gt0-clause-most
returns-then-decimals-gt0-clause-most c =
    let short = length-decimal-le 10 (c.args.magnitude / c.args.unit) (omega arith) c.requires.whole (omega (arith, c.requires.whole)) in
    let digits = ap length c.format.ensures.text in
    omega (arith, c.sign-text.ensures.most, c.push_str.ensures.len, c.push_fraction.ensures.len, c.requires.decimals)

pub returns-else-decimals-gt0-clause-most : goal.returns-else-decimals-gt0-clause-most
returns-else-decimals-gt0-clause-most c =
    let short = length-decimal-le 10 (c.args.magnitude / c.args.unit) (omega arith) c.requires.whole (omega (arith, c.requires.whole)) in
    let digits = ap length c.format.ensures.text in
    omega (arith, c.sign-text.ensures.most, c.push_str.ensures.len)
