use Rattle.std.proofs.Common.{[], ◌∷◌, ◌++◌, codes}
use Rattle.std.proofs.KnownBytes.{Appends-trans}
use Rattle.std.proofs.lemmas.Result.{on_err_weaker}
use Rattle.vt_can.specs.lines.WrittenForms.{frame_text}
use Rattle.vt_logs.specs.Texts.{refusal_name, newline}
use Rattle.vt_logs.proofs.AppendedText.{begun_first, begun_after}
use Rattle.vt_logs.proofs.EarlyEndInLines.{begins_later, begins_more, on_any_err}
use Rattle.vt_logs.proofs.output.put_output.Goals as goal

pub returns-in_err-put-in-Frame-clause-front : goal.returns-in_err-put-in-Frame-clause-front
returns-in_err-put-in-Frame-clause-front g c =
    let held = g.W.Write.contents in
    rw c.in-Frame.is (on_any_err c.from_residual.result
    (begins_more (held c.args.writer.now) (held c.put.new.writer) (frame_text c.in-Frame.frame) newline (rw (c.deref.ensures.0, c.write_frame.ensures) at c.in_err-put-in-Frame.ensures.front)))

pub returns-in_err-put-in-Refused-clause-front : goal.returns-in_err-put-in-Refused-clause-front
returns-in_err-put-in-Refused-clause-front g c =
    let held = g.W.Write.contents in
    rw c.in-Refused.is (on_any_err c.from_residual-in_err-put-in-Refused.result
    (begun_first (held c.args.writer.now) (held c.put-in-Refused.new.writer) (codes "operator ") (refusal_name c.in-Refused.fault ∷ newline ∷ []) c.in_err-put-in-Refused.ensures.front))

pub returns-in_err-put-in-Refused-2-clause-front : goal.returns-in_err-put-in-Refused-2-clause-front
returns-in_err-put-in-Refused-2-clause-front g c =
    let held = g.W.Write.contents in
    rw c.in-Refused.is (on_any_err c.from_residual-in_err-put-in-Refused-2.result
    (begun_after (held c.args.writer.now) (held c.put-in-Refused.new.writer) (held c.put-in-Refused-2.new.writer) (codes "operator ") (refusal_name c.in-Refused.fault) (newline ∷ [])
    c.in_ok-put-in-Refused.ensures.text (rw (c.as_bytes.ensures.value, c.refusal_name.ensures) at c.in_err-put-in-Refused-2.ensures.front)))

pub returns-in_ok-put-in-Frame-clause-front : goal.returns-in_ok-put-in-Frame-clause-front
returns-in_ok-put-in-Frame-clause-front g c =
    let held = g.W.Write.contents in
    rw c.in-Frame.is (on_err_weaker c.put-in-Frame.result
    (begins_later (held c.args.writer.now) (held c.put.new.writer) (held c.put-in-Frame.new.writer) (frame_text c.in-Frame.frame) newline
    (rw (c.deref.ensures.0, c.write_frame.ensures) at c.in_ok-put-in-Frame.ensures.text))
    c.put-in-Frame.ensures.front)

pub returns-in_ok-put-in-Refused-2-clause-front : goal.returns-in_ok-put-in-Refused-2-clause-front
returns-in_ok-put-in-Refused-2-clause-front g c =
    let held = g.W.Write.contents in
    rw c.in-Refused.is (on_err_weaker c.put-in-Refused-3.result
    (begins_later (held c.args.writer.now) (held c.put-in-Refused-2.new.writer) (held c.put-in-Refused-3.new.writer) (codes "operator " ++ refusal_name c.in-Refused.fault) newline
    (Appends-trans (held c.args.writer.now) (held c.put-in-Refused.new.writer) (held c.put-in-Refused-2.new.writer) (codes "operator ") (refusal_name c.in-Refused.fault)
    c.in_ok-put-in-Refused.ensures.text (rw (c.as_bytes.ensures.value, c.refusal_name.ensures) at c.in_ok-put-in-Refused-2.ensures.text)))
    c.put-in-Refused-3.ensures.front)
