-- The comparison of a recorded terminal with this one, over the lines of a log.
use Rattle.std.specs.Prelude.{◌≡◌, ℕ, List, [], ◌∷◌, ◌++◌}
use Rattle.std.specs.List.{AllZip}
use Rattle.log_answers.specs.declared.comparison.Comparison.{Comparison}
use Rattle.log_answers.specs.declared.difference.Difference.{Difference}
use Rattle.log_answers.specs.declared.said.Said.{Said}
use Rattle.log_answers.specs.declared.topic.Topic.{Topic}
use Rattle.log_answers.specs.Conversations.{Converses, LogLine, Point}
use Rattle.log_answers.specs.Matches.{AreMatched, AreOpen}
use Rattle.log_answers.specs.Messages.{on_topic}
use Rattle.log_answers.specs.Tellings.{IsAnswered, differences_on, told}
use Rattle.vt_server.specs.shown.ShownSet.{display, status_frame}
use Rattle.vt_server.specs.Terminals.{State}

-- before the first line: the last status message of the recorded terminal is taken to be that of this one
abbrev pub start_at : State → Point
start_at state = record { state = state; now = 0; status = (status_frame state.claims.own (display state)).bytes.items }

-- The differences in the lines of a log, between the recorded terminal at an address and this one: on each topic what is told of its
-- questions and its answers.
pub record AreDifferences (own wait : ℕ) (start : Point) (lines : List LogLine) (differences : List Difference) : Type 0 where
  pub last : Point
  pub questions : List Said
  pub answers : List Said
  pub converse : Converses own start lines last questions answers
  pub each : (topic : Topic) → differences_on topic differences ≡ told wait (on_topic topic questions) (on_topic topic answers)

-- On each topic each question has an equal answer in time, and each answer a question.
abbrev pub AreAnswered : ℕ → (questions answers : List Said) → Type 0
AreAnswered wait questions answers = (topic : Topic) → AllZip (IsAnswered wait) (on_topic topic questions) (on_topic topic answers)

-- ---- under way

abbrev pub point_at : State → Comparison → Point
point_at state comparison = record { state = state; now = comparison.now; status = comparison.status.items }

-- A comparison has taken these lines, has told these differences, and the terminal has this state.
pub record HasCompared (own wait : ℕ) (start : Point) (lines : List LogLine) (differences : List Difference) (state : State) (comparison : Comparison) : Type 0 where
  pub questions : List Said
  pub answers : List Said
  pub converse : Converses own start lines (point_at state comparison) questions answers
  pub matched : AreMatched wait comparison.line comparison.now questions answers comparison.open.questions.items differences
  pub in_order : AreOpen comparison.line comparison.now comparison.open.questions.items
  pub own_is : comparison.own ≡ own
  pub wait_is : comparison.wait ≡ wait

-- It has taken one more line, and has told more.
pub record HasComparedMore (own wait : ℕ) (start : Point) (lines : List LogLine) (differences : List Difference) (line : LogLine)
    (before after : List Difference) (state : State) (comparison : Comparison) : Type 0 where
  pub more : List Difference
  pub whole : after ≡ before ++ more
  pub compared : HasCompared own wait start (lines ++ line ∷ []) (differences ++ more) state comparison

-- It has told all differences.
pub record HasToldAll (own wait : ℕ) (start : Point) (lines : List LogLine) (differences before after : List Difference) : Type 0 where
  pub more : List Difference
  pub whole : after ≡ before ++ more
  pub are : AreDifferences own wait start lines (differences ++ more)
