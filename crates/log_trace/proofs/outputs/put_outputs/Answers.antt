use Rattle.log_trace.proofs.OutputLines.{gains_next}
use Rattle.log_trace.proofs.outputs.put_outputs.Goals as goal

pub loop-output-preserved : goal.loop-output-preserved
loop-output-preserved c =
    gains_next c.args.outputs.now c.loop-output.output-index c.output-item.result c.args.text.now.items c.loop-output.text.items c.put_output.new.text.items
    c.loop-output-test.true c.output-item.is c.loop-output.invariant c.in_ok-put_output.ensures
