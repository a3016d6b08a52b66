-- What this terminal and a recorded one say in a log (docs/PROFILE.md, "Answers").
use Rattle.std.specs.Prelude.{◌≡◌, ℕ, ◌==◌, ◌&&◌, max, Bool, true, false, if◌then◌else◌, List, [], ◌∷◌, ◌++◌, Ok, Err}
use Rattle.std.specs.Option.{option_to_list}
use Rattle.std.specs.Str.{bytes_eq}
use Rattle.log_answers.specs.declared.said.Said.{Said}
use Rattle.log_answers.specs.Messages.{said_by, said_in}
use Rattle.vt_can.specs.Assigned.{VT_STATUS, VT_TO_ECU}
use Rattle.vt_can.specs.declared.frames.frame.Frame.{Frame}
use Rattle.vt_can.specs.frames.Identifier.{parts_of, pgn_of}
use Rattle.vt_can.specs.lines.Readings.{FrameAt, OperatorAction, SkippedFrame, CommentLine}
use Rattle.vt_logs.specs.LineEffects.{Sends}
use Rattle.vt_logs.specs.Texts.{LineReading}
use Rattle.vt_server.specs.Terminals.{State}
use Rattle.vt_server.specs.declared.output.Output.{Output}

-- a line of a log by its number, as it was read, and whether this terminal receives it
pub record LogLine : Type 0 where
  pub number : ℕ
  pub reading : LineReading
  pub is_received : Bool

-- between two lines: this terminal, the latest time so far, and the bytes of the recorded terminal's last status message
pub record Point : Type 0 where
  pub state : State
  pub now : ℕ
  pub status : List ℕ

-- ---- the recorded terminal

-- whether a message is a status message
abbrev pub is_status : List ℕ → Bool
is_status [] = false
is_status (function ∷ rest) = function == VT_STATUS

-- whether a frame is a message of the terminal at an address
abbrev pub is_message_of : ℕ → Frame → Bool
is_message_of own frame = (parts_of frame.id).source == own && pgn_of (parts_of frame.id) == VT_TO_ECU

-- whether a frame repeats the last status message, as terminals do each second
abbrev pub repeats : List ℕ → Frame → Bool
repeats status frame = is_status frame.bytes.items && bytes_eq frame.bytes.items status

-- what the recorded terminal at an address says with a frame: a repeated status says nothing
abbrev pub recorded_in : ℕ → ℕ → ℕ → List ℕ → Frame → List Said
recorded_in own line time status frame =
    if is_message_of own frame then (if repeats status frame then [] else option_to_list (said_in line time frame)) else []

abbrev pub recorded_by : ℕ → ℕ → ℕ → List ℕ → LineReading → List Said
recorded_by own line now status (Ok (FrameAt time frame)) = recorded_in own line now status frame
recorded_by own line now status (Ok (OperatorAction action)) = []
recorded_by own line now status (Ok (SkippedFrame why)) = []
recorded_by own line now status (Ok CommentLine) = []
recorded_by own line now status (Err fault) = []

-- the bytes of its last status message after a line
abbrev pub status_in : ℕ → List ℕ → Frame → List ℕ
status_in own status frame = if is_message_of own frame && is_status frame.bytes.items then frame.bytes.items else status

abbrev pub status_after : ℕ → List ℕ → LineReading → List ℕ
status_after own status (Ok (FrameAt time frame)) = status_in own status frame
status_after own status (Ok (OperatorAction action)) = status
status_after own status (Ok (SkippedFrame why)) = status
status_after own status (Ok CommentLine) = status
status_after own status (Err fault) = status

-- the latest time after a line
abbrev pub time_after : ℕ → LineReading → ℕ
time_after now (Ok (FrameAt time frame)) = max now time
time_after now (Ok (OperatorAction action)) = now
time_after now (Ok (SkippedFrame why)) = now
time_after now (Ok CommentLine) = now
time_after now (Err fault) = now

-- ---- both

-- This terminal takes a line with these outputs. One that it does not receive changes nothing, and nothing is sent.
abbrev pub Takes : Bool → State → LineReading → State → List Output → Type 0
Takes true from reading to sent = Sends from reading to sent
Takes false from reading to sent = (to ≡ from) × (sent ≡ [])

-- At a line this terminal asks, and then the recorded one answers.
pub record SaysAt (own : ℕ) (from : Point) (line : LogLine) (to : Point) (questions answers : List Said) : Type 0 where
  pub sent : List Output
  pub sends : Takes line.is_received from.state line.reading to.state sent
  pub now : to.now ≡ time_after from.now line.reading
  pub status : to.status ≡ status_after own from.status line.reading
  pub questions_are : questions ≡ said_by line.number to.now sent
  pub answers_are : answers ≡ recorded_by own line.number to.now from.status line.reading

-- What both say in the lines of a log, in its order.
pub data Converses (own : ℕ) (from : Point) : List LogLine → Point → (questions answers : List Said) → Type 0 where
  nothing : Converses own from [] from [] []
  one_more : (lines : List LogLine) (middle : Point) (questions answers : List Said) → Converses own from lines middle questions answers
      → (line : LogLine) (to : Point) (more_questions more_answers : List Said) → SaysAt own middle line to more_questions more_answers
      → Converses own from (lines ++ line ∷ []) to (questions ++ more_questions) (answers ++ more_answers)
