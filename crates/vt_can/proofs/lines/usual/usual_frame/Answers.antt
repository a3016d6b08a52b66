use Rattle.std.proofs.Common.{◌≡◌, ◌≤◌, ◌+◌, ◌*◌, ◌∷◌, ◌++◌, [], List, ℕ, Some, Ok, Result, length, take, drop, refl, sym, ap, ap₂, ◌∙◌, arith}
use Rattle.std.proofs.lemmas.List.{take-append-drop}
use Rattle.std.proofs.lemmas.Bool.Decides.{Decides-eqb}
use Rattle.std.proofs.lemmas.Grind.{common_steps}
use Rattle.std.proofs.lemmas.Slice.Eq.{strip_prefix_is}
use Rattle.vt_can.specs.declared.lines.line.Line.{Line}
use Rattle.vt_can.specs.declared.lines.line.LineFault.{LineFault}
use Rattle.vt_can.specs.lines.Readings.{ParsedLine, parsed}
use Rattle.vt_can.proofs.lemmas.lines.Digits.{digits_value-small}
use Rattle.vt_can.proofs.lemmas.lines.UsualLine.{AreParts, usual_read}
use Rattle.vt_can.proofs.lines.usual.usual_frame.Goals as goal
use Rattle.vt_can.proofs.lines.usual.usual_frame.Goals.{In_ok-time}

pub overflow_mul-time : goal.overflow_mul-time
overflow_mul-time c =
    let digits = c.in_ok-number.ensures in
    let below = digits_value-small c.in_ok-seconds.seconds.now 12 digits.0.digits digits.0.no_more in
    omega (arith, digits.1)

pub overflow_add-time : goal.overflow_add-time
overflow_add-time c =
    let s = c.in_ok-number.ensures in
    let f = c.in_ok-time.ensures in
    let seconds = digits_value-small c.in_ok-seconds.seconds.now 12 s.0.digits s.0.no_more in
    let fraction = digits_value-small c.in_ok-fraction.fraction.now 6 f.0.digits f.0.no_more in
    omega (arith, s.1, f.1)

-- a split at an index joins to the whole
joined : (whole front back : List ℕ) (n : ℕ) → front ≡ take n whole → back ≡ drop n whole → whole ≡ front ++ back
joined whole front back n first second = sym (take-append-drop n whole) ∙ ap₂ (λ (a b : List ℕ). a ++ b) (sym first) (sym second)

parts : (c : In_ok-time) → AreParts c.args.content.now c.in_ok-seconds.seconds.now c.in_ok-fraction.fraction.now c.in_ok-interface.interface.now c.in_ok-id.id.now c.in_ok-data.data.now
parts c =
    let split = c.in_ok-fraction.ensures.cases in
    let later = c.in_ok-id.ensures.cases in
    let closes = strip_prefix_is Decides-eqb c.in_ok-fraction.text.now (41 ∷ 32 ∷ []) (Some c.in_ok-words.words) c.in_ok-words.ensures.cases in
    let marks = strip_prefix_is Decides-eqb c.in_ok-id.rest.now (35 ∷ []) (Some c.in_ok-data.data) c.in_ok-data.ensures.cases in
    let fraction = joined c.in_ok-seconds.text.now c.in_ok-fraction.fraction.now c.in_ok-fraction.text.now 6 split.1 split.2 in
    record {
      text = c.in_ok-text.text.now;
      words = c.in_ok-words.words.now;
      word = c.in_ok-interface.word.now;
      opens = strip_prefix_is Decides-eqb c.args.content.now (40 ∷ []) (Some c.in_ok-text.text) c.in_ok-text.ensures.cases;
      point = record {
        front_lacks = c.in_ok-seconds.ensures.front_lacks;
        whole = c.in_ok-seconds.ensures.whole ∙ ap (λ (x : List ℕ). c.in_ok-seconds.seconds.now ++ 46 ∷ x) (fraction ∙ ap (λ (x : List ℕ). c.in_ok-fraction.fraction.now ++ x) closes);
      };
      space = c.in_ok-interface.ensures;
      sign = joined c.in_ok-interface.word.now c.in_ok-id.id.now c.in_ok-id.rest.now 8 later.1 later.2 ∙ ap (λ (x : List ℕ). c.in_ok-id.id.now ++ x) marks;
    }

abbrev read_as : Line → Result ParsedLine LineFault
read_as line = Ok (parsed line)

pub returns-in-Ok-Frame : goal.returns-in-Ok-Frame
returns-in-Ok-Frame c =
    let within = c.if-not-contains.ensures.cases in
    let low : 1 ≤ length c.in_ok-interface.interface.now = grind (arith, common_steps) in
    let high : length c.in_ok-interface.interface.now ≤ 15 = grind (arith, common_steps) in
    let s = c.in_ok-number.ensures in
    let f = c.in_ok-time.ensures in
    usual_read c.args.content.now c.in_ok-seconds.seconds.now c.in_ok-fraction.fraction.now c.in_ok-interface.interface.now c.in_ok-id.id.now c.in_ok-data.data.now
    (parts (goal.at.returns-in-Ok-Frame c).In_ok-time) (c.in_ok-number.field-0 * 1000000 + c.in_ok-time.field-0) c.in-Ok-Frame.time c.in-Ok-Frame.frame s.0 f.0 (rw (s.1, f.1) refl) low high c.in_ok-id.ensures.cases.3
    (ap (λ (line : Line). read_as line) (sym c.in-Ok-Frame.field-0-is) ∙ c.in-Ok-Frame.ensures)
