-- Open questions that expire one after the other.
use Rattle.std.proofs.Common.{◌≡◌, ◌∙◌, ℕ, ◌+◌, ◌<◌, ◌≤◌, List, [], ◌∷◌, ◌++◌, map, refl, sym, ap, append_assoc}
use Rattle.std.proofs.lemmas.List.{append-nil}
use Rattle.std.specs.List.{AllByRecursion}
use Rattle.log_answers.specs.declared.difference.Difference.{Difference}
use Rattle.log_answers.specs.declared.difference.Difference.TheVariants.{OursAlone}
use Rattle.log_answers.specs.declared.said.Said.{Said}
use Rattle.log_answers.specs.OpenQuestions.{IsOverdue, LosesOverdue}

-- Questions from the oldest on are told as overdue so far.
pub record IsExpiring (wait now : ℕ) (old new : List Said) (before after : List Difference) : Type 0 where
  pub overdue : List Said
  pub whole : old ≡ overdue ++ new
  pub each : AllByRecursion (IsOverdue wait now) overdue
  pub told : after ≡ before ++ map OursAlone overdue

pub none_expired : (wait now : ℕ) (questions : List Said) (differences : List Difference) → IsExpiring wait now questions questions differences differences
none_expired wait now questions differences = record { overdue = []; whole = refl; each = tt; told = sym (append-nil differences) }

all_and_one : (P : Said → Type 0) (xs : List Said) (x : Said) → AllByRecursion P xs → P x → AllByRecursion P (xs ++ x ∷ [])
all_and_one P [] x all one = (one, tt)
all_and_one P (y ∷ ys) x all one = (all.0, all_and_one P ys x all.1 one)

map_and_one : (xs : List Said) (x : Said) → map OursAlone (xs ++ x ∷ []) ≡ map OursAlone xs ++ OursAlone x ∷ []
map_and_one [] x = refl
map_and_one (y ∷ ys) x = ap (λ (rest : List Difference). OursAlone y ∷ rest) (map_and_one ys x)

pub one_expired : (wait now : ℕ) (old middle new : List Said) (question : Said) (before between after : List Difference)
    → IsExpiring wait now old middle before between → middle ≡ question ∷ new → question.time + wait < now → after ≡ between ++ OursAlone question ∷ []
    → IsExpiring wait now old new before after
one_expired wait now old middle new question before between after so_far front overdue told = record {
  overdue = so_far.overdue ++ question ∷ [];
  whole = so_far.whole ∙ ap (λ (rest : List Said). so_far.overdue ++ rest) front ∙ sym (append_assoc so_far.overdue (question ∷ []) new);
  each = all_and_one (IsOverdue wait now) so_far.overdue question so_far.each overdue;
  told = told ∙ ap (λ (list : List Difference). list ++ OursAlone question ∷ []) so_far.told
      ∙ append_assoc before (map OursAlone so_far.overdue) (OursAlone question ∷ [])
      ∙ ap (λ (rest : List Difference). before ++ rest) (sym (map_and_one so_far.overdue question));
}

pub all_expired : (wait now : ℕ) (old new : List Said) (before after : List Difference) → IsExpiring wait now old new before after
    → ((question : Said) (rest : List Said) → new ≡ question ∷ rest → now ≤ question.time + wait) → LosesOverdue wait now old new before after
all_expired wait now old new before after so_far first = record { overdue = so_far.overdue; whole = so_far.whole; each = so_far.each; told = so_far.told; first = first }
