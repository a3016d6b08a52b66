use Rattle.vt_server.specs.States.{state_of}
use Rattle.log_trace.specs.Traces.{screen_in}
use Rattle.log_trace.proofs.TracedInputs.{gains_input, on_ok_both}
use Rattle.log_trace.proofs.tracer.Tracer.trace_input.Goals as goal

pub returns : goal.returns
returns c =
    let from = state_of c.args.terminal.now in
    on_ok_both c.put_new_screen.result
    (λ changed screen. gains_input from (state_of c.step.new.self) c.args.input.now c.clear.new.self.items c.step.new.outputs.items
    (screen_in c.args.self.now) (screen_in c.put_new_screen.new.self) c.args.text.now.items c.put_outputs.new.text.items c.put_new_screen.new.text.items
    c.clear.ensures.items c.in_ok-step.ensures.ok (rw c.deref.ensures.value at c.in_ok-put_outputs.ensures) (screen from c.in_ok-step.ensures.same) changed)
    c.put_new_screen.ensures.changes c.put_new_screen.ensures.screen
