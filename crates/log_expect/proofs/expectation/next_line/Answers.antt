use Rattle.std.proofs.Common.{◌∙◌, ◌+◌, ℕ, List, ◌∷◌, take, drop, sym, ap, arith, add-one, rules}
use Rattle.std.proofs.lemmas.List.{take_rest}
use Rattle.log_expect.proofs.FirstLine.{lines_cut, lines_last}
use Rattle.vt_logs.specs.Lines.{lines_of}
use Rattle.log_expect.proofs.expectation.next_line.Goals as goal

pub returns-in-Some-clause-lines : goal.returns-in-Some-clause-lines
returns-in-Some-clause-lines c =
    let text = c.args.text.now in
    let place = c.in-Some.end in
    let first = c.in-Some.ensures in
    lines_cut text place first.0.high first.1 (λ k below. first.0.before k (omega arith) below)
    ∙ ap (λ (n : ℕ). take place text ∷ lines_of (drop n text)) (sym (add-one place))
    ∙ ap (λ (rest : List ℕ). take place text ∷ lines_of rest) (sym (take_rest text (place + 1)))

pub returns-in-None-clause-lines : goal.returns-in-None-clause-lines
returns-in-None-clause-lines c =
    let text = c.args.text.now in
    lines_last text (search rules) (λ k below. c.in-None.ensures k (omega arith) below)
