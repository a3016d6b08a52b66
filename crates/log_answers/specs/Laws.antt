-- What no difference means.
use Rattle.std.specs.Prelude.{◌≡◌, ℕ, List, []}
use Rattle.log_answers.specs.Comparisons.{AreAnswered, AreDifferences}
use Rattle.log_answers.specs.Conversations.{LogLine, Point}
use Rattle.log_answers.specs.declared.difference.Difference.{Difference}

-- There is no difference exactly if on each topic each question has an equal answer in time, and each answer a question.
abbrev pub NoDifferenceIsAnswered : Type 0
NoDifferenceIsAnswered =
    (own wait : ℕ) (start : Point) (lines : List LogLine) (differences : List Difference) (are : AreDifferences own wait start lines differences)
    → (differences ≡ [] → AreAnswered wait are.questions are.answers) × (AreAnswered wait are.questions are.answers → differences ≡ [])
