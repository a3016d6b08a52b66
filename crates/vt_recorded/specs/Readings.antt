-- The reading of a line that some recorder wrote.
use Rattle.std.specs.Prelude.{◌≡◌, Bool, true, false, ℕ, List, if◌then◌else◌, Result, Ok, Err}
use Rattle.vt_can.specs.declared.lines.line.LineFault.{LineFault}
use Rattle.vt_can.specs.declared.lines.line.LineFault.TheVariants.{Time, Shape, Hex, Length, Operator}
use Rattle.vt_can.specs.lines.Line.{IsContent, ReadsAs}
use Rattle.vt_can.specs.lines.Readings.{ParsedLine, FrameAt, OperatorAction, SkippedFrame, CommentLine}
use Rattle.vt_recorded.specs.PlainForms.{plain_form}

-- whether a reading stands as it is: it has no fault, or another one than that of the time or of the shape
abbrev pub is_of_form : Result ParsedLine LineFault → Bool
is_of_form (Ok line) = true
is_of_form (Err Time) = false
is_of_form (Err Shape) = false
is_of_form (Err Hex) = true
is_of_form (Err Length) = true
is_of_form (Err Operator) = true

-- whether a frame was read, or a frame to be ignored
abbrev pub is_of_frame : Result ParsedLine LineFault → Bool
is_of_frame (Ok (FrameAt time frame)) = true
is_of_frame (Ok (OperatorAction action)) = false
is_of_frame (Ok (SkippedFrame why)) = true
is_of_frame (Ok CommentLine) = false
is_of_frame (Err fault) = false

-- The reading of a line as it stands; where it is not of that form, the reading of the plain form of its content, if this is a frame.
pub data IsReadingOf (line : List ℕ) : Result ParsedLine LineFault → Type 0 where
  as_it_stands : (reading : Result ParsedLine LineFault) → ReadsAs line reading → is_of_form reading ≡ true → IsReadingOf line reading
  in_plain_form : (content : List ℕ) (first second : Result ParsedLine LineFault) → IsContent line content → ReadsAs line first → is_of_form first ≡ false
      → ReadsAs (plain_form content) second → IsReadingOf line (if is_of_frame second then second else first)

-- The reading of a line is unique.
abbrev pub ReadingsAreOne : Type 0
ReadingsAreOne = (line : List ℕ) (a b : Result ParsedLine LineFault) → IsReadingOf line a → IsReadingOf line b → a ≡ b
