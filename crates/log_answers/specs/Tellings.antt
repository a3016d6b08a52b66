-- What is told of the questions and the answers on one topic (docs/PROFILE.md, "Answers").
use Rattle.std.specs.Prelude.{◌≡◌, ◌≤◌, ℕ, ◌+◌, nat_lt, if◌then◌else◌, List, [], ◌∷◌, ◌++◌, map, filter}
use Rattle.std.specs.Prelude.{Bool}
use Rattle.log_answers.specs.declared.difference.Difference.{Difference}
use Rattle.log_answers.specs.declared.difference.Difference.TheVariants.{Differ, OursAlone, TheirsAlone}
use Rattle.log_answers.specs.declared.said.Said.{Said}
use Rattle.log_answers.specs.declared.topic.Topic.{Topic}
use Rattle.log_answers.specs.Topics.{same_topic}
use Rattle.log_answers.specs.OpenQuestions.{told_of_pair}

-- whether a question is older than the wait when an answer comes
abbrev pub is_late : ℕ → Said → Said → Bool
is_late wait answer question = nat_lt (question.time + wait) answer.time

-- the oldest questions that are late for an answer, and those after them
abbrev pub late : ℕ → Said → List Said → List Said
late wait answer [] = []
late wait answer (question ∷ questions) = if is_late wait answer question then question ∷ late wait answer questions else []

abbrev pub in_time : ℕ → Said → List Said → List Said
in_time wait answer [] = []
in_time wait answer (question ∷ questions) = if is_late wait answer question then in_time wait answer questions else question ∷ questions

-- An answer is to the oldest question that is left, if this was asked at the answer's line or before it.
abbrev pub told_first : Said → List Said → List Difference
told_first answer [] = TheirsAlone answer ∷ []
told_first answer (question ∷ questions) = if nat_lt answer.line question.line then TheirsAlone answer ∷ [] else told_of_pair question answer

abbrev pub left_after : Said → List Said → List Said
left_after answer [] = []
left_after answer (question ∷ questions) = if nat_lt answer.line question.line then question ∷ questions else questions

-- What is told of all questions and answers on a topic: the questions that are late for an answer are alone, and so are those that are
-- left after the last one.
abbrev pub told : ℕ → List Said → List Said → List Difference
told wait questions [] = map OursAlone questions
told wait questions (answer ∷ answers) =
    map OursAlone (late wait answer questions) ++ told_first answer (in_time wait answer questions)
    ++ told wait (left_after answer (in_time wait answer questions)) answers

-- ---- differences on a topic

abbrev pub topic_of_difference : Difference → Topic
topic_of_difference (Differ ours theirs) = ours.topic
topic_of_difference (OursAlone ours) = ours.topic
topic_of_difference (TheirsAlone theirs) = theirs.topic

abbrev pub differences_on : Topic → List Difference → List Difference
differences_on topic differences = filter (λ difference. same_topic (topic_of_difference difference) topic) differences

-- ---- an equal answer in time

-- An answer with the bytes of its question, at its line or after it, and no later than the wait allows.
pub record IsAnswered (wait : ℕ) (question answer : Said) : Type 0 where
  pub equal : question.bytes.items ≡ answer.bytes.items
  pub asked : question.line ≤ answer.line
  pub in_time : answer.time ≤ question.time + wait
