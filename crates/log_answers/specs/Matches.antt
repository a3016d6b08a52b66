-- A comparison under way: what is still open, and what comes later.
use Rattle.std.specs.Prelude.{◌≡◌, ◌<◌, ◌≤◌, ℕ, List, [], ◌∷◌, ◌++◌}
use Rattle.std.specs.List.{AllByRecursion}
use Rattle.log_answers.specs.declared.difference.Difference.{Difference}
use Rattle.log_answers.specs.declared.said.Said.{Said}
use Rattle.log_answers.specs.declared.topic.Topic.{Topic}
use Rattle.log_answers.specs.Messages.{on_topic}
use Rattle.log_answers.specs.Tellings.{differences_on, told}

-- Messages of later lines: none is said before this time.
abbrev pub AreLater : (line now : ℕ) → List Said → Type 0
AreLater line now messages = AllByRecursion (λ said. (line < said.line) × (now ≤ said.time)) messages

-- The open questions and the differences so far stand for the questions and answers so far: whatever comes later, the same is told on
-- each topic.
pub record AreMatched (wait line now : ℕ) (questions answers unanswered : List Said) (differences : List Difference) : Type 0 where
  pub later : (topic : Topic) (more_questions more_answers : List Said) → AreLater line now more_questions → AreLater line now more_answers
      → told wait (on_topic topic (questions ++ more_questions)) (on_topic topic (answers ++ more_answers))
      ≡ differences_on topic differences ++ told wait (on_topic topic (unanswered ++ more_questions)) (on_topic topic more_answers)

-- Open questions are of lines so far, and in the order of their times, none of which is to come.
abbrev pub AreOpen : (line now : ℕ) → List Said → Type 0
AreOpen line now [] = Unit {0}
AreOpen line now (question ∷ questions) =
    (question.line ≤ line) × (question.time ≤ now) × AllByRecursion (λ (later : Said). question.time ≤ later.time) questions × AreOpen line now questions
