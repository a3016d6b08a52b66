-- The text and the counts of a replay (docs/PROFILE.md, "Output of a replay").
use Rattle.std.specs.Prelude.{ℕ, ◌+◌, if◌then◌else◌, List, [], ◌∷◌, ◌++◌, codes, Result, Ok, Err}
use Rattle.std.specs.Str.{bytes_eq}
use Rattle.std.specs.Fmt.{decimal}
use Rattle.vt_can.specs.declared.lines.line.LineFault.{LineFault}
use Rattle.vt_can.specs.declared.lines.line.LineFault.TheVariants.{Time, Shape, Hex, Length, Operator}
use Rattle.vt_can.specs.lines.WrittenForms.{frame_text}
use Rattle.vt_can.specs.lines.Readings.{ParsedLine, FrameAt, OperatorAction, SkippedFrame, CommentLine}
use Rattle.vt_logs.specs.declared.counts.Counts.{Counts}
use Rattle.vt_machine.specs.declared.operator.OperatorRefusal.TheVariants as refusals
use Rattle.vt_server.specs.declared.output.OperatorFault.{OperatorFault}
use Rattle.vt_server.specs.declared.output.OperatorFault.TheVariants as faults
use Rattle.vt_server.specs.declared.output.Output.{Output}
use Rattle.vt_server.specs.declared.output.Output.TheVariants as outputs

-- A line as it was read, or its fault.
abbrev pub LineReading : Type 0
LineReading = Result ParsedLine LineFault

abbrev pub newline : List ℕ
newline = 10 ∷ []

abbrev pub fault_name : LineFault → List ℕ
fault_name Time = codes "Time"
fault_name Shape = codes "Shape"
fault_name Hex = codes "Hex"
fault_name Length = codes "Length"
fault_name Operator = codes "Operator"

-- The number and the name of a refusal to the operator.
abbrev pub refusal_name : OperatorFault → List ℕ
refusal_name (faults.Refused refusals.NotShown) = codes "1 NotShown"
refusal_name (faults.Refused refusals.Disabled) = codes "2 Disabled"
refusal_name (faults.Refused refusals.Range) = codes "3 Range"
refusal_name (faults.Refused refusals.TooLong) = codes "4 TooLong"
refusal_name (faults.Refused refusals.WrongKind) = codes "5 WrongKind"
refusal_name (faults.Refused refusals.NotPressed) = codes "6 NotPressed"
refusal_name (faults.Refused refusals.Held) = codes "7 Held"
refusal_name faults.Busy = codes "8 Busy"
refusal_name faults.NoSet = codes "9 NoSet"

abbrev pub output_text : Output → List ℕ
output_text (outputs.Frame frame) = frame_text frame ++ newline
output_text (outputs.Refused fault) = codes "operator " ++ refusal_name fault ++ newline

-- The text of a screen: nothing where it is the one printed last.
abbrev pub new_screen : List ℕ → List ℕ → List ℕ
new_screen last screen = if bytes_eq screen last then [] else screen

-- The text of the fault of line n.
abbrev pub line_fault_text : ℕ → LineFault → List ℕ
line_fault_text n fault = codes "line " ++ decimal n ++ codes " " ++ fault_name fault ++ newline

abbrev pub no_counts : Counts
no_counts = record { lines = 0; frames = 0; operator = 0; skipped = 0; comments = 0; faults = 0 }

-- The counts after one more line, which is of one of the five sorts.
abbrev pub with_line_counted : Counts → LineReading → Counts
with_line_counted c (Ok (FrameAt time frame)) = record c { lines = c.lines + 1; frames = c.frames + 1 }
with_line_counted c (Ok (OperatorAction action)) = record c { lines = c.lines + 1; operator = c.operator + 1 }
with_line_counted c (Ok (SkippedFrame why)) = record c { lines = c.lines + 1; skipped = c.skipped + 1 }
with_line_counted c (Ok CommentLine) = record c { lines = c.lines + 1; comments = c.comments + 1 }
with_line_counted c (Err fault) = record c { lines = c.lines + 1; faults = c.faults + 1 }

abbrev pub with_lines_counted : Counts → List LineReading → Counts
with_lines_counted c [] = c
with_lines_counted c (r ∷ rs) = with_lines_counted (with_line_counted c r) rs

abbrev pub count_text : List ℕ → ℕ → List ℕ
count_text label n = label ++ decimal n

-- The text of the counts, which is the last line of a replay.
abbrev pub counts_text : Counts → List ℕ
counts_text c =
    count_text (codes "lines ") c.lines ++ count_text (codes " frames ") c.frames ++ count_text (codes " operator ") c.operator
    ++ count_text (codes " skipped ") c.skipped ++ count_text (codes " comments ") c.comments ++ count_text (codes " faults ") c.faults ++ newline
