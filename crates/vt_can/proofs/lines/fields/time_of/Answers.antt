use Rattle.std.proofs.Common.{◌≡◌, ℕ, ◌∷◌, [], List, Some, subst, arith, refl}
use Rattle.std.proofs.lemmas.Bool.Decides.{Decides-eqb}
use Rattle.std.proofs.lemmas.Slice.Eq.{strip_prefix_is}
use Rattle.vt_can.proofs.lemmas.lines.Digits.{digits_value-small, micros-small}
use Rattle.vt_can.specs.lines.Line.{AreDigits, IsFraction}
use Rattle.vt_can.proofs.lemmas.lines.Shape.{TimeCut, no_close, no_point, time-cut, time-made, time_cut-made, time_cut-one}
use Rattle.vt_can.proofs.lines.fields.time_of.Goals as goal
use Rattle.vt_can.proofs.lines.fields.time_of.Goals.{In_ok-text, In_ok-fraction}

opened : (c : In_ok-text) → c.args.content.now ≡ 40 ∷ c.in_ok-text.text.now
opened c = strip_prefix_is Decides-eqb c.args.content.now (40 ∷ []) (Some c.in_ok-text.text) c.in_ok-text.ensures.cases

pub returns-in_err-seconds : goal.returns-in_err-seconds
returns-in_err-seconds c =
    let opens = opened (goal.at.returns-in_err-seconds c).In_ok-text in
    rw c.from_residual-in_err-seconds.ensures (no_point c.args.content.now c.in_ok-text.text.now opens c.in_err-seconds.ensures)

pub returns-in_err-fraction : goal.returns-in_err-fraction
returns-in_err-fraction c =
    let opens = opened (goal.at.returns-in_err-fraction c).In_ok-text in
    rw c.from_residual-in_err-fraction.ensures (no_close c.args.content.now c.in_ok-text.text.now c.in_ok-seconds.seconds.now c.in_ok-seconds.text.now opens c.in_ok-seconds.ensures c.in_err-fraction.ensures)

cut_up : (c : In_ok-fraction) → TimeCut c.args.content.now c.in_ok-seconds.seconds.now c.in_ok-fraction.fraction.now c.in_ok-fraction.rest.now
cut_up c =
    let opens : c.args.content.now ≡ 40 ∷ c.in_ok-text.text.now = strip_prefix_is Decides-eqb c.args.content.now (40 ∷ []) (Some c.in_ok-text.text) c.in_ok-text.ensures.cases in
    time_cut-made opens c.in_ok-seconds.ensures c.in_ok-fraction.ensures

pub returns-in_err-seconds-2 : goal.returns-in_err-seconds-2
returns-in_err-seconds-2 c =
    rw c.from_residual-in_err-seconds-2.ensures (λ time rest h.
    let same = time_cut-one (time-cut h) (cut_up (goal.at.returns-in_err-seconds-2 c).In_ok-fraction) in
    c.in_err-seconds-2.ensures (subst (λ (x : List ℕ). AreDigits 1 12 x) same.0 h.seconds_digits))

pub returns-in_err-micros : goal.returns-in_err-micros
returns-in_err-micros c =
    rw c.from_residual-in_err-micros.ensures (λ time rest h.
    let same = time_cut-one (time-cut h) (cut_up (goal.at.returns-in_err-micros c).In_ok-fraction) in
    c.in_err-micros.ensures (subst (λ (x : List ℕ). IsFraction x) same.1 h.fraction_digits))

pub overflow_mul-result : goal.overflow_mul-result
overflow_mul-result c =
    let digits = c.in_ok-seconds-2.ensures in
    let below = digits_value-small c.in_ok-seconds.seconds.now 12 digits.0.digits digits.0.no_more in
    omega (arith, digits.1)

pub overflow_add-result : goal.overflow_add-result
overflow_add-result c =
    let s = c.in_ok-seconds-2.ensures in
    let f = c.in_ok-micros.ensures in
    let seconds = digits_value-small c.in_ok-seconds.seconds.now 12 s.0.digits s.0.no_more in
    let fraction = micros-small c.in_ok-fraction.fraction.now f.0 in
    omega (arith, s.1, f.1)

pub returns : goal.returns
returns c =
    let s = c.in_ok-seconds-2.ensures in
    let f = c.in_ok-micros.ensures in
    time-made (cut_up (goal.at.returns c).In_ok-fraction) s.0 f.0 (rw (s.1, f.1) refl)
