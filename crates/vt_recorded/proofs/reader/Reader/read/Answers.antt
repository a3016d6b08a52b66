use Rattle.std.proofs.Common.{◌≡◌, sym, ◌∙◌, ap, subst, ◌++◌}
use Rattle.vt_can.specs.lines.Line.{ReadsAs}
use Rattle.vt_can.specs.lines.Readings.{reading_of}
use Rattle.vt_recorded.specs.PlainForms.{plain_form}
use Rattle.vt_recorded.specs.Readings.{as_it_stands}
use Rattle.vt_recorded.proofs.PlainReadings.{read_as_plain, keeps_its_fault}
use Rattle.vt_recorded.proofs.reader.Reader.read.Goals as goal

pub returns-then-is_of_form : goal.returns-then-is_of_form
returns-then-is_of_form c =
    as_it_stands (reading_of c.parse_line-reading.result) c.parse_line-reading.ensures (sym c.is_of_form.ensures ∙ c.if-is_of_form.true)

pub returns-then-is_of_frame : goal.returns-then-is_of_frame
returns-then-is_of_frame c =
    let content = c.content_of.result.now in
    let text : c.deref.result.now ≡ plain_form content =
    c.deref.ensures.value ∙ c.in_ok-put_plain_form.ensures ∙ ap (λ xs. xs ++ plain_form content) c.clear.ensures.items in
    read_as_plain c.args.line.now content (reading_of c.parse_line-reading.result) (reading_of c.parse_line-plain.result) c.content_of.ensures c.parse_line-reading.ensures
    (sym c.is_of_form.ensures ∙ c.if-is_of_form.false) (subst (λ text. ReadsAs text (reading_of c.parse_line-plain.result)) text c.parse_line-plain.ensures)
    (sym c.is_of_frame.ensures ∙ c.if-is_of_frame.true)

pub returns : goal.returns
returns c =
    let content = c.content_of.result.now in
    let text : c.deref.result.now ≡ plain_form content =
    c.deref.ensures.value ∙ c.in_ok-put_plain_form.ensures ∙ ap (λ xs. xs ++ plain_form content) c.clear.ensures.items in
    keeps_its_fault c.args.line.now content (reading_of c.parse_line-reading.result) (reading_of c.parse_line-plain.result) c.content_of.ensures c.parse_line-reading.ensures
    (sym c.is_of_form.ensures ∙ c.if-is_of_form.false) (subst (λ text. ReadsAs text (reading_of c.parse_line-plain.result)) text c.parse_line-plain.ensures)
    (sym c.is_of_frame.ensures ∙ c.if-is_of_frame.false)
