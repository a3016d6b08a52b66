use Rattle.std.proofs.lemmas.Result.{on_ok_weaker}
use Rattle.vt_server.specs.States.{state_of}
use Rattle.log_trace.specs.Traces.{screen_in}
use Rattle.log_trace.proofs.TracedInputs.{gains_frame_line}
use Rattle.log_trace.proofs.tracer.Tracer.trace_frame.Goals as goal

pub returns : goal.returns
returns c =
    on_ok_weaker c.trace_input.result
    (gains_frame_line c.args.number (state_of c.args.terminal.now) (state_of c.trace_input.new.terminal) c.args.time c.args.frame.now c.in_ok-frame.frame
    (screen_in c.args.self.now) (screen_in c.trace_input.new.self)
    c.args.text.now.items c.put_head.new.text.items c.trace_input.new.text.items c.in_ok-frame.ensures c.in_ok-put_head.ensures)
    c.trace_input.ensures
