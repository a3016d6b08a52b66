use Rattle.std.proofs.Common.{◌≡◌, Err, Ok, refl}
use Rattle.std.proofs.lemmas.Result.{on_ok_weaker}
use Rattle.vt_can.specs.lines.Readings.{parsed, reading_of}
use Rattle.vt_server.specs.States.{state_of}
use Rattle.log_trace.specs.Traces.{screen_in}
use Rattle.log_trace.proofs.TracedInputs.{gained_by, gains_faulty_line}
use Rattle.log_trace.proofs.tracer.Tracer.trace_line.Goals as goal

pub returns-in-Err : goal.returns-in-Err
returns-in-Err c =
    let state = state_of c.args.terminal.now in
    let is : reading_of c.args.reading.now ≡ Err c.in-Err.fault = rw c.in-Err.is refl in
    let screen = screen_in c.args.self.now in
    on_ok_weaker c.put_head.result
    (λ head. gained_by c.args.number state state (reading_of c.args.reading.now) (Err c.in-Err.fault) screen screen c.args.text.now.items c.put_head.new.text.items is
    (gains_faulty_line c.args.number state c.in-Err.fault screen c.args.text.now.items c.put_head.new.text.items head))
    c.put_head.ensures

pub returns-in-Ok : goal.returns-in-Ok
returns-in-Ok c =
    let from = state_of c.args.terminal.now in
    let to = state_of c.trace_read.new.terminal in
    let is : reading_of c.args.reading.now ≡ Ok (parsed c.in-Ok.line) = rw c.in-Ok.is refl in
    on_ok_weaker c.trace_read.result
    (gained_by c.args.number from to (reading_of c.args.reading.now) (Ok (parsed c.in-Ok.line)) (screen_in c.args.self.now) (screen_in c.trace_read.new.self)
    c.args.text.now.items c.trace_read.new.text.items is)
    c.trace_read.ensures
