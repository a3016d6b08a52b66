use Rattle.vt_logs.specs.Texts.{output_text}
use Rattle.vt_logs.proofs.AppendedText.{begun_item}
use Rattle.vt_logs.proofs.EarlyEndInLines.{on_any_err}
use Rattle.vt_logs.proofs.output.put_outputs.Goals as goal

pub returns-in_err-put_output-clause-front : goal.returns-in_err-put_output-clause-front
returns-in_err-put_output-clause-front g c =
    let held = g.W.Write.contents in
    on_any_err c.from_residual.result
    (begun_item output_text c.args.outputs.now c.loop-output.output-index c.output-item.result (held c.args.writer.now) (held c.loop-output.writer) (held c.put_output.new.writer)
    c.loop-output-test.true c.output-item.is c.loop-output.invariant c.in_err-put_output.ensures.front)
