use Rattle.std.proofs.lemmas.Result.{on_ok_weaker}
use Rattle.vt_can.specs.lines.Actions.{action_value}
use Rattle.vt_server.specs.States.{state_of}
use Rattle.log_trace.specs.Traces.{screen_in}
use Rattle.log_trace.proofs.TracedInputs.{gains_action_line, gains_comment, gains_skipped_line}
use Rattle.log_trace.proofs.tracer.Tracer.trace_read.Goals as goal

pub returns-in_ok-put_head-in-Operator : goal.returns-in_ok-put_head-in-Operator
returns-in_ok-put_head-in-Operator c =
    rw c.in-Operator.is (on_ok_weaker c.trace_input.result
    (gains_action_line c.args.number (state_of c.args.terminal.now) (state_of c.trace_input.new.terminal) (action_value c.in-Operator.action)
    (screen_in c.args.self.now) (screen_in c.trace_input.new.self)
    c.args.text.now.items c.put_head.new.text.items c.trace_input.new.text.items c.in_ok-put_head-in-Operator.ensures)
    c.trace_input.ensures)

pub returns-in-Skipped : goal.returns-in-Skipped
returns-in-Skipped c =
    rw c.in-Skipped.is (on_ok_weaker c.put_head-in-Skipped.result
    (gains_skipped_line c.args.number (state_of c.args.terminal.now) c.in-Skipped.skipped (screen_in c.args.self.now) c.args.text.now.items c.put_head-in-Skipped.new.text.items)
    c.put_head-in-Skipped.ensures)

pub returns-in-Comment : goal.returns-in-Comment
returns-in-Comment c = rw c.in-Comment.is (gains_comment c.args.number (state_of c.args.terminal.now) (screen_in c.args.self.now) c.args.text.now.items)
