-- The questions without an answer so far, the oldest first: what the time, and an answer, take from them.
use Rattle.std.specs.Prelude.{◌≡◌, ◌<◌, ◌≤◌, ℕ, ◌+◌, true, false, if◌then◌else◌, Option, Some, None, List, [], ◌∷◌, ◌++◌, map}
use Rattle.std.specs.List.{AllByRecursion}
use Rattle.std.specs.Str.{bytes_eq}
use Rattle.log_answers.specs.declared.difference.Difference.{Difference}
use Rattle.log_answers.specs.declared.difference.Difference.TheVariants.{Differ, OursAlone, TheirsAlone}
use Rattle.log_answers.specs.declared.said.Said.{Said}
use Rattle.log_answers.specs.declared.topic.Topic.{Topic}
use Rattle.log_answers.specs.Messages.{is_on}

-- At this time a question is older than the wait.
abbrev pub IsOverdue : (wait now : ℕ) → Said → Type 0
IsOverdue wait now question = question.time + wait < now

-- Questions that are overdue by now are told, from the oldest on, up to the first that is not.
pub record LosesOverdue (wait now : ℕ) (old new : List Said) (told_before told_after : List Difference) : Type 0 where
  pub overdue : List Said
  pub whole : old ≡ overdue ++ new
  pub each : AllByRecursion (IsOverdue wait now) overdue
  pub told : told_after ≡ told_before ++ map OursAlone overdue
  pub first : (question : Said) (rest : List Said) → new ≡ question ∷ rest → now ≤ question.time + wait

-- The oldest question on a topic, if there is one, is taken out.
pub record IsOldest (topic : Topic) (old : List Said) (question : Said) (new : List Said) : Type 0 where
  pub front : List Said
  pub back : List Said
  pub whole : old ≡ front ++ question ∷ back
  pub others : AllByRecursion (λ other. is_on topic other ≡ false) front
  pub on_topic : is_on topic question ≡ true
  pub rest : new ≡ front ++ back

abbrev pub TakesOldest : Topic → List Said → Option Said → List Said → Type 0
TakesOldest topic old None new = AllByRecursion (λ other. is_on topic other ≡ false) old × (new ≡ old)
TakesOldest topic old (Some question) new = IsOldest topic old question new

-- ---- an answer

-- what is told of an answer to a question: nothing if it has the same bytes
abbrev pub told_of_pair : Said → Said → List Difference
told_of_pair ours theirs = if bytes_eq ours.bytes.items theirs.bytes.items then [] else Differ ours theirs ∷ []

-- what is told of an answer, by the question that it answers
abbrev pub told_of_answer : Option Said → Said → List Difference
told_of_answer None theirs = TheirsAlone theirs ∷ []
told_of_answer (Some ours) theirs = told_of_pair ours theirs

-- An answer is told beside the question that it takes out.
pub record Answers (theirs : Said) (old new : List Said) (told_before told_after : List Difference) : Type 0 where
  pub question : Option Said
  pub takes : TakesOldest theirs.topic old question new
  pub told : told_after ≡ told_before ++ told_of_answer question theirs

-- The answers of a line, which are one at most, are told.
abbrev pub Hears : List Said → (old new : List Said) → (told_before told_after : List Difference) → Type 0
Hears [] old new told_before told_after = (new ≡ old) × (told_after ≡ told_before)
Hears (theirs ∷ []) old new told_before told_after = Answers theirs old new told_before told_after
Hears (theirs ∷ second ∷ others) old new told_before told_after = ⊥
