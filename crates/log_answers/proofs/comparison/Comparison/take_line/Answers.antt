use Rattle.std.proofs.Common.{◌∙◌, Ok, Result, ap, refl, sym, subst}
use Rattle.log_answers.proofs.OneMoreLine.{IsSilent, taken-silent}
use Rattle.vt_can.specs.declared.lines.line.Line.{Line}
use Rattle.vt_can.specs.declared.lines.line.LineFault.{LineFault}
use Rattle.vt_can.specs.lines.Readings.{reading_of}
use Rattle.vt_server.specs.States.{state_of}
use Rattle.log_answers.proofs.comparison.Comparison.take_line.Goals as goal

pub returns-in-Ok-Skipped-clause-compared : goal.returns-in-Ok-Skipped-clause-compared
unfolding IsSilent
returns-in-Ok-Skipped-clause-compared c =
    let silent = subst (λ (r : Result Line LineFault). IsSilent (reading_of r)) (sym (c.in-Ok-Skipped.is ∙ ap Ok c.in-Ok-Skipped.field-0-is)) tt in
    let before = c.args.self.now in
    λ own wait start lines told has.
    taken-silent own wait start lines told c.args.line (reading_of c.args.reading) (state_of c.args.terminal.now) before
    (record { line = c.args.line; tally = before.tally; own = before.own; wait = before.wait; now = before.now; status = before.status; «open» = before.open; outputs = before.outputs })
    c.args.differences.now.items silent has c.requires refl refl refl refl refl refl

pub returns-in-Ok-Comment-clause-compared : goal.returns-in-Ok-Comment-clause-compared
unfolding IsSilent
returns-in-Ok-Comment-clause-compared c =
    let silent = subst (λ (r : Result Line LineFault). IsSilent (reading_of r)) (sym (c.in-Ok-Comment.is ∙ ap Ok c.in-Ok-Comment.field-0-is)) tt in
    let before = c.args.self.now in
    λ own wait start lines told has.
    taken-silent own wait start lines told c.args.line (reading_of c.args.reading) (state_of c.args.terminal.now) before
    (record { line = c.args.line; tally = before.tally; own = before.own; wait = before.wait; now = before.now; status = before.status; «open» = before.open; outputs = before.outputs })
    c.args.differences.now.items silent has c.requires refl refl refl refl refl refl

pub returns-in-Err-clause-compared : goal.returns-in-Err-clause-compared
unfolding IsSilent
returns-in-Err-clause-compared c =
    let silent = subst (λ (r : Result Line LineFault). IsSilent (reading_of r)) (sym c.in-Err.is) tt in
    let before = c.args.self.now in
    λ own wait start lines told has.
    taken-silent own wait start lines told c.args.line (reading_of c.args.reading) (state_of c.args.terminal.now) before
    (record { line = c.args.line; tally = before.tally; own = before.own; wait = before.wait; now = before.now; status = before.status; «open» = before.open; outputs = before.outputs })
    c.args.differences.now.items silent has c.requires refl refl refl refl refl refl
