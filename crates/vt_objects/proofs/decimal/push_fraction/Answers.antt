use Rattle.std.proofs.Common.{◌≡◌, ◌-◌, ◌∷◌, [], ◌++◌, length, replicate, ℕ, List, ap, ◌∙◌, append_assoc, arith}
use Rattle.std.proofs.lemmas.List.{length-append}
use Rattle.std.proofs.lemmas.Fmt.{length-decimal-le}
use Rattle.std.specs.Fmt.{decimal}
use Rattle.vt_objects.proofs.decimal.push_fraction.Goals as goal

pub push_str-requires : goal.push_str-requires
push_str-requires c =
    let short = length-decimal-le c.args.decimals c.args.fraction c.requires.some c.requires.fraction (omega (arith, c.ranges.fraction.fits)) in
    let digits = ap length c.format-digits.ensures.text in
    let point = ap length (c.push.ensures.ascii (omega arith)) ∙ length-append c.args.text.now.bytes (46 ∷ []) in
    (omega arith, omega (arith, c.loop.invariant.counted, c.loop.invariant.begun, c.requires.spare, c.requires.decimals, c.from-end.ensures, c.loop.auto.counter-end))

pub returns-clause-len : goal.returns-clause-len
returns-clause-len c =
    let short = length-decimal-le c.args.decimals c.args.fraction c.requires.some c.requires.fraction (omega (arith, c.ranges.fraction.fits)) in
    let digits = ap length c.format-digits.ensures.text in
    let point = ap length (c.push.ensures.ascii (omega arith)) ∙ length-append c.args.text.now.bytes (46 ∷ []) in
    omega (arith, c.push_str.ensures.len, c.loop.invariant.counted, c.loop.invariant.begun, c.from-end.ensures, c.loop-test.false, c.loop.auto.counter-end)

pub returns-clause-text : goal.returns-clause-text
returns-clause-text c =
    let short = length-decimal-le c.args.decimals c.args.fraction c.requires.some c.requires.fraction (omega (arith, c.ranges.fraction.fits)) in
    let digits = ap length c.format-digits.ensures.text in
    let filled : c.loop.counter - length c.format-digits.result.now ≡ c.args.decimals - length (decimal c.args.fraction) = omega (arith, c.loop.invariant.begun, c.from-end.ensures, c.loop-test.false, c.loop.auto.counter-end) in
    let zeros = ap (λ (k : ℕ). c.push.new.self.bytes ++ replicate k 48) filled in
    c.push_str.ensures.bytes
    ∙ ap (λ (t : List ℕ). t ++ c.format-digits.result.now) (c.loop.invariant.zeros ∙ zeros)
    ∙ ap (λ (t : List ℕ). (c.push.new.self.bytes ++ replicate (c.args.decimals - length (decimal c.args.fraction)) 48) ++ t) c.format-digits.ensures.text
    ∙ append_assoc c.push.new.self.bytes (replicate (c.args.decimals - length (decimal c.args.fraction)) 48) (decimal c.args.fraction)
    ∙ ap (λ (t : List ℕ). t ++ (replicate (c.args.decimals - length (decimal c.args.fraction)) 48 ++ decimal c.args.fraction)) (c.push.ensures.ascii (omega arith))
