use Rattle.std.proofs.Common.{take}
use Rattle.log_trace.specs.Lines.{Gains}
use Rattle.log_trace.specs.Traces.{AreOutputLines}
use Rattle.log_trace.proofs.outputs.put_outputs.Given as goal

abbrev pub invariant-loop-output : goal.invariant-loop-output
invariant-loop-output l = Gains (AreOutputLines (take l.output-index l.outputs)) l.initial.text.items l.text.items
