use Rattle.std.proofs.Common.{◌+◌}
use Rattle.std.proofs.lemmas.Result.{on_err_weaker}
use Rattle.vt_can.specs.lines.Actions.{action_value}
use Rattle.vt_logs.specs.Progress.{scene}
use Rattle.vt_logs.specs.LineEffects.{ReplayState}
use Rattle.vt_logs.proofs.InputOfLine.{action_off, fault_begun, frame_off}
use Rattle.vt_server.specs.States.{state_of}
use Rattle.vt_logs.proofs.progress.Progress.take_reading.Goals as goal

pub returns-in-Ok-Frame-clause-stopped : goal.returns-in-Ok-Frame-clause-stopped
returns-in-Ok-Frame-clause-stopped g c =
    let held = g.W.Write.contents in
    let from : ReplayState = scene c.args.terminal.now c.args.self.now.screen.items in
    rw (c.in-Ok-Frame.is, c.in-Ok-Frame.field-0-is) (on_err_weaker c.take_input.result
    (frame_off from (c.args.self.now.counts.lines + 1) c.in-Ok-Frame.time c.in-Ok-Frame.frame (state_of c.take_input.new.terminal) (held c.args.writer.now) (held c.take_input.new.writer))
    c.take_input.ensures.stopped)

pub returns-in-Ok-Operator-clause-stopped : goal.returns-in-Ok-Operator-clause-stopped
returns-in-Ok-Operator-clause-stopped g c =
    let held = g.W.Write.contents in
    let from : ReplayState = scene c.args.terminal.now c.args.self.now.screen.items in
    let took = c.take_input-in-Ok-Operator in
    rw (c.in-Ok-Operator.is, c.in-Ok-Operator.field-0-is) (on_err_weaker took.result
    (action_off from (c.args.self.now.counts.lines + 1) (action_value c.in-Ok-Operator.action) (state_of took.new.terminal) (held c.args.writer.now) (held took.new.writer))
    took.ensures.stopped)

pub returns-in-Err-clause-stopped : goal.returns-in-Err-clause-stopped
returns-in-Err-clause-stopped g c =
    let held = g.W.Write.contents in
    rw c.in-Err.is (on_err_weaker c.put_fault.result
    (fault_begun (scene c.args.terminal.now c.args.self.now.screen.items) (c.args.self.now.counts.lines + 1) c.in-Err.fault (held c.args.writer.now) (held c.put_fault.new.writer))
    c.put_fault.ensures.front)
