-- Lines that have been read, as values without the address of their text in memory.
use Rattle.std.specs.Prelude.{ℕ, Result, Ok, Err}
use Rattle.vt_can.specs.declared.frames.frame.Frame.{Frame}
use Rattle.vt_can.specs.declared.lines.line.Skipped.{Skipped}
use Rattle.vt_can.specs.declared.lines.line.Line.{Line}
use Rattle.vt_can.specs.declared.lines.line.Line.TheVariants as lines
use Rattle.vt_can.specs.declared.lines.line.LineFault.{LineFault}
use Rattle.vt_can.specs.lines.Actions.{ActionValue, action_value}

pub data ParsedLine : Type 0 where
  FrameAt : (time : ℕ) (frame : Frame) → ParsedLine
  OperatorAction : (action : ActionValue) → ParsedLine
  SkippedFrame : (why : Skipped) → ParsedLine
  CommentLine : ParsedLine

abbrev pub parsed : Line → ParsedLine
parsed (lines.Frame time frame) = FrameAt time frame
parsed (lines.Operator action) = OperatorAction (action_value action)
parsed (lines.Skipped why) = SkippedFrame why
parsed lines.Comment = CommentLine

abbrev pub reading_of : Result Line LineFault → Result ParsedLine LineFault
reading_of (Ok line) = Ok (parsed line)
reading_of (Err fault) = Err fault
