-- The trace of a line of a log: a head, the terminal's outputs, and the changes of its screen.
use Rattle.std.specs.Prelude.{◌≡◌, ℕ, false, nat_eq, List, [], ◌++◌, codes, Ok}
use Rattle.std.specs.Fmt.{decimal}
use Rattle.std.specs.List.{AllZip, starts_with}
use Rattle.vt_can.specs.lines.Readings.{ParsedLine, CommentLine}
use Rattle.vt_can.specs.lines.WrittenForms.{frame_text}
use Rattle.vt_logs.specs.LineEffects.{Sends, SendsByInput}
use Rattle.vt_logs.specs.Texts.{LineReading, newline, refusal_name}
use Rattle.vt_server.specs.Terminals.{State}
use Rattle.vt_server.specs.declared.output.Output.{Output}
use Rattle.vt_server.specs.declared.output.Output.TheVariants as outputs
use Rattle.vt_server.specs.shown.Screens.{IsScreenOf}
use Rattle.log_trace.specs.Changes.{AreScreenChanges}
use Rattle.log_trace.specs.Lines.{HasNoNewline, joined}
use Rattle.log_trace.specs.declared.tracer.Tracer.{Tracer}

-- ---- the outputs

-- an output as a replay prints it, without its newline
abbrev pub output_line : Output → List ℕ
output_line (outputs.Frame frame) = frame_text frame
output_line (outputs.Refused fault) = codes "operator " ++ refusal_name fault

-- The line of an output: four spaces, the output as a replay prints it, two spaces, and a sentence without a newline.
pub record IsOutputLine (output : Output) (line : List ℕ) : Type 0 where
  pub sentence : List ℕ
  pub one_line : HasNoNewline sentence
  pub whole : line ≡ codes "    " ++ output_line output ++ codes "  " ++ sentence ++ newline

-- the lines of outputs, in their order
pub record AreOutputLines (sent : List Output) (text : List ℕ) : Type 0 where
  pub lines : List (List ℕ)
  pub each : AllZip IsOutputLine sent lines
  pub whole : text ≡ joined lines

-- ---- the head

-- The first line of the trace of a line: its number, a space, and words. It does not begin with four spaces, so it is no line of an output.
pub record IsHead (number : ℕ) (head : List ℕ) : Type 0 where
  pub words : List ℕ
  pub one_line : HasNoNewline words
  pub unindented : starts_with nat_eq head (codes "    ") ≡ false
  pub whole : head ≡ decimal number ++ codes " " ++ words ++ newline

-- A comment has no head, and any other line has one.
abbrev pub IsHeadOf : ℕ → LineReading → List ℕ → Type 0
IsHeadOf number (Ok CommentLine) head = head ≡ []
IsHeadOf number _ head = IsHead number head

-- ---- a line

-- The terminal takes the input of a line. The trace has its outputs and the changes of its screen from the old text to the new one.
pub record TracesInput (from : State) (line : ParsedLine) (to : State) (old new added : List ℕ) : Type 0 where
  pub sent : List Output
  pub answers : List ℕ
  pub changes : List ℕ
  pub takes : SendsByInput from line to sent
  pub answers_are : AreOutputLines sent answers
  pub screen : IsScreenOf from old → IsScreenOf to new
  pub changes_are : AreScreenChanges old new changes
  pub whole : added ≡ answers ++ changes

-- A line of a number is taken, and its trace is a head, the lines of the terminal's outputs, and the changes of the screen from the old
-- text to the new one. If the old text is that of the screen before the line, the new one is that of the screen after it.
pub record TracesLine (number : ℕ) (from : State) (reading : LineReading) (to : State) (old new added : List ℕ) : Type 0 where
  pub sent : List Output
  pub head : List ℕ
  pub answers : List ℕ
  pub changes : List ℕ
  pub takes : Sends from reading to sent
  pub head_is : IsHeadOf number reading head
  pub answers_are : AreOutputLines sent answers
  pub screen : IsScreenOf from old → IsScreenOf to new
  pub changes_are : AreScreenChanges old new changes
  pub whole : added ≡ head ++ answers ++ changes

-- the text of the screen after the last line
abbrev pub screen_in : Tracer → List ℕ
screen_in tracer = tracer.screen.items
