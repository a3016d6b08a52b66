use Rattle.std.proofs.lemmas.Result.{on_ok_weaker}
use Rattle.log_trace.proofs.OutputLines.{gains_frame, gains_refusal}
use Rattle.log_trace.proofs.outputs.put_output.Goals as goal

pub returns-in_ok-extend_from_slice-in-Frame : goal.returns-in_ok-extend_from_slice-in-Frame
returns-in_ok-extend_from_slice-in-Frame c =
    on_ok_weaker c.put_line.result
    (gains_frame c.args.output.now c.as_bytes.result.now c.args.text.now.items c.extend_from_slice.new.self.items c.extend_from_slice-in-Frame.new.self.items
    c.put_line.new.text.items c.in-Frame.frame c.in-Frame.is c.in_ok-extend_from_slice.ensures.items
    (rw (c.deref.ensures.0, c.write_frame.ensures) at c.in_ok-extend_from_slice-in-Frame.ensures.items))
    c.put_line.ensures

pub returns-in_ok-extend_from_slice-in-Refused-2 : goal.returns-in_ok-extend_from_slice-in-Refused-2
returns-in_ok-extend_from_slice-in-Refused-2 c =
    on_ok_weaker c.put_line-in-Refused.result
    (gains_refusal c.args.output.now c.as_bytes-in-Refused-2.result.now c.args.text.now.items c.extend_from_slice.new.self.items
    c.extend_from_slice-in-Refused.new.self.items c.extend_from_slice-in-Refused-2.new.self.items c.put_line-in-Refused.new.text.items c.in-Refused.fault
    c.in-Refused.is c.in_ok-extend_from_slice.ensures.items c.in_ok-extend_from_slice-in-Refused.ensures.items
    (rw (c.as_bytes-in-Refused.ensures.value, c.refusal_name.ensures) at c.in_ok-extend_from_slice-in-Refused-2.ensures.items))
    c.put_line-in-Refused.ensures
