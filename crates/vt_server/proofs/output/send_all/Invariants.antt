use Rattle.std.proofs.Common.{◌≡◌, ◌++◌, ◌+◌, ◌≤◌, List, length, vec_len, vec_capacity}
use Rattle.std.specs.declared.vec.Vec.{Vec}
use Rattle.vt_can.specs.declared.frames.frame.Frame.{Frame}
use Rattle.vt_server.specs.Outputs.{frames_of}
use Rattle.vt_server.specs.declared.output.Output.{Output}
use Rattle.vt_server.proofs.output.send_all.Given as goal

-- The frames that are left complete what is to be sent, and take at most the places that are wanted for all of them.
pub record IsSending {A : Type 0} (before now : Vec Output A) (frames left : List Frame) : Type 0 where
  pub items : now.items ++ frames_of left ≡ before.items ++ frames_of frames
  pub capacity : vec_capacity before + vec_len now + length left ≤ vec_capacity now + vec_len before + length frames

abbrev pub invariant-loop-frame : goal.invariant-loop-frame
invariant-loop-frame l =
    (goal.iterator-loop-frame).can_next l.frame-iterator ×
    (goal.iterator-loop-frame).is_finite l.frame-iterator ×
    IsSending l.fn.outputs l.outputs l.fn.frames.items l.frame-iterator
