-- What the lines of a log do to the terminal, and what they print (docs/PROFILE.md, "Output of a replay").
use Rattle.std.specs.Prelude.{◌≡◌, ℕ, ◌+◌, List, [], ◌∷◌, ◌++◌, Ok, Err}
use Rattle.std.specs.List.{flat_map}
use Rattle.vt_can.specs.lines.Actions.{action_value}
use Rattle.vt_can.specs.lines.Readings.{ParsedLine, FrameAt, OperatorAction, SkippedFrame, CommentLine}
use Rattle.vt_logs.specs.Texts.{LineReading, output_text, line_fault_text, new_screen}
use Rattle.vt_server.specs.Judgements.{IsJudgedRight}
use Rattle.vt_server.specs.Outputs.{outputs_of}
use Rattle.vt_server.specs.shown.Screens.{IsScreenOf}
use Rattle.vt_server.specs.Steps as steps
use Rattle.vt_server.specs.Steps.{JudgedInput, step}
use Rattle.vt_server.specs.Terminals.{State}
use Rattle.vt_server.specs.declared.input.Input.{Input}
use Rattle.vt_server.specs.declared.input.Input.TheVariants as inputs
use Rattle.vt_server.specs.declared.output.Output.{Output}

-- A replay between two lines: the terminal, and the screen printed last.
pub record ReplayState : Type 0 where
  pub state : State
  pub screen : List ℕ

-- The terminal takes an input with the judgements of pools in it, and its outputs are printed, then its screen, where that
-- differs from the one printed last.
pub record TakesJudged (from : ReplayState) (event : JudgedInput) (to : ReplayState) (text : List ℕ) : Type 0 where
  pub judged : IsJudgedRight from.state event
  pub state : to.state ≡ (step from.state event).after
  pub screen : IsScreenOf to.state to.screen
  pub printed : text ≡ flat_map output_text (outputs_of (step from.state event).sent) ++ new_screen from.screen to.screen

-- ---- lines

-- The line of an input.
abbrev pub input_line : Input → ParsedLine
input_line (inputs.Frame time frame) = FrameAt time frame
input_line (inputs.Operator action) = OperatorAction (action_value action)

-- The input is that of this line, a frame or an action of the operator.
abbrev pub IsInputOfLine : ParsedLine → JudgedInput → Type 0
IsInputOfLine (FrameAt time frame) (steps.FrameAt at received verdict) = (at ≡ time) × (received ≡ frame)
IsInputOfLine (OperatorAction action) (steps.ActionAt value shown) = value ≡ action
IsInputOfLine line event = ⊥

pub record TakesInputLine (from : ReplayState) (line : ParsedLine) (to : ReplayState) (text : List ℕ) : Type 0 where
  pub event : JudgedInput
  pub of_line : IsInputOfLine line event
  pub takes : TakesJudged from event to text

-- The terminal and the screen stay as they are, and this text is printed.
abbrev pub OnlyPrints : ReplayState → ReplayState → List ℕ → List ℕ → Type 0
OnlyPrints from to printed text = (to ≡ from) × (text ≡ printed)

-- Line n is taken, as it was read.
abbrev pub TakesReading : ReplayState → ℕ → LineReading → ReplayState → List ℕ → Type 0
TakesReading from n (Ok (FrameAt time frame)) to text = TakesInputLine from (FrameAt time frame) to text
TakesReading from n (Ok (OperatorAction action)) to text = TakesInputLine from (OperatorAction action) to text
TakesReading from n (Ok (SkippedFrame why)) to text = OnlyPrints from to [] text
TakesReading from n (Ok CommentLine) to text = OnlyPrints from to [] text
TakesReading from n (Err fault) to text = OnlyPrints from to (line_fault_text n fault) text

-- A line is taken after n others, and the lines after it follow.
pub record TakesFirst (from : ReplayState) (n : ℕ) (reading : LineReading) (Then : ReplayState → List ℕ → Type 0) (text : List ℕ) : Type 0 where
  pub middle : ReplayState
  pub first : List ℕ
  pub rest : List ℕ
  pub takes : TakesReading from (n + 1) reading middle first
  pub next : Then middle rest
  pub whole : text ≡ first ++ rest

abbrev pub TakesReadings : ReplayState → ℕ → List LineReading → ReplayState → List ℕ → Type 0
TakesReadings from n [] to text = OnlyPrints from to [] text
TakesReadings from n (r ∷ rs) to text = TakesFirst from n r (λ middle rest. TakesReadings middle (n + 1) rs to rest) text

-- ---- the terminal alone, whatever is printed

-- The terminal takes the input of a line, with right judgements of pools, and sends these outputs.
pub record SendsByInput (from : State) (line : ParsedLine) (to : State) (sent : List Output) : Type 0 where
  pub event : JudgedInput
  pub of_line : IsInputOfLine line event
  pub judged : IsJudgedRight from event
  pub state : to ≡ (step from event).after
  pub outputs : sent ≡ outputs_of (step from event).sent

-- The terminal takes a line as it was read. One that is no input changes nothing, and nothing is sent.
abbrev pub Sends : State → LineReading → State → List Output → Type 0
Sends from (Ok (FrameAt time frame)) to sent = SendsByInput from (FrameAt time frame) to sent
Sends from (Ok (OperatorAction action)) to sent = SendsByInput from (OperatorAction action) to sent
Sends from (Ok (SkippedFrame why)) to sent = (to ≡ from) × (sent ≡ [])
Sends from (Ok CommentLine) to sent = (to ≡ from) × (sent ≡ [])
Sends from (Err fault) to sent = (to ≡ from) × (sent ≡ [])

-- The terminal takes the input of a line, with right judgements of pools.
pub record FollowsInput (from : State) (line : ParsedLine) (to : State) : Type 0 where
  pub event : JudgedInput
  pub of_line : IsInputOfLine line event
  pub judged : IsJudgedRight from event
  pub state : to ≡ (step from event).after

-- The terminal takes a line as it was read. One that is no input changes nothing.
abbrev pub Follows : State → LineReading → State → Type 0
Follows from (Ok (FrameAt time frame)) to = FollowsInput from (FrameAt time frame) to
Follows from (Ok (OperatorAction action)) to = FollowsInput from (OperatorAction action) to
Follows from _ to = to ≡ from
