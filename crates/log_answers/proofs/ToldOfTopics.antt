-- What is told of the questions and answers on a topic, step by step.
use Rattle.std.proofs.Common.{◌≡◌, ◌∙◌, ℕ, ◌<◌, ◌≤◌, ltb, Bool, true, false, cond, List, [], ◌∷◌, ◌++◌, map, refl, ap, arith}
use Rattle.std.proofs.lemmas.Bool.Decides.{nat_tests}
use Rattle.std.proofs.lemmas.List.{map-append}
use Rattle.std.specs.List.{AllByRecursion}
use Rattle.log_answers.specs.declared.difference.Difference.{Difference}
use Rattle.log_answers.specs.declared.difference.Difference.TheVariants.{OursAlone, TheirsAlone}
use Rattle.log_answers.specs.declared.said.Said.{Said}
use Rattle.log_answers.specs.OpenQuestions.{IsOverdue, told_of_pair}
use Rattle.log_answers.specs.Tellings.{in_time, is_late, late, left_after, told, told_first}

-- ---- an answer and the first question

told_by : (wait : ℕ) (answer : Said) (answers : List Said) (before rest : List Said) → List Difference
told_by wait answer answers before rest = map OursAlone before ++ told_first answer rest ++ told wait (left_after answer rest) answers

pub told-late : (wait : ℕ) (question answer : Said) (questions answers : List Said) → is_late wait answer question ≡ true
    → told wait (question ∷ questions) (answer ∷ answers) ≡ OursAlone question ∷ told wait questions (answer ∷ answers)
unfolding told_by
told-late wait question answer questions answers is =
    ap (λ (b : Bool). told_by wait answer answers (cond b (question ∷ late wait answer questions) []) (cond b (in_time wait answer questions) (question ∷ questions))) is

in-time : (wait : ℕ) (question answer : Said) (questions answers : List Said) → is_late wait answer question ≡ false
    → told wait (question ∷ questions) (answer ∷ answers) ≡ told_first answer (question ∷ questions) ++ told wait (left_after answer (question ∷ questions)) answers
unfolding told_by
in-time wait question answer questions answers is =
    ap (λ (b : Bool). told_by wait answer answers (cond b (question ∷ late wait answer questions) []) (cond b (in_time wait answer questions) (question ∷ questions))) is

-- The answer is to the question.
pub told-pair : (wait : ℕ) (question answer : Said) (questions answers : List Said) → is_late wait answer question ≡ false → ltb answer.line question.line ≡ false
    → told wait (question ∷ questions) (answer ∷ answers) ≡ told_of_pair question answer ++ told wait questions answers
told-pair wait question answer questions answers is asked =
    in-time wait question answer questions answers is
    ∙ ap (λ (b : Bool). cond b (TheirsAlone answer ∷ []) (told_of_pair question answer) ++ told wait (cond b (question ∷ questions) questions) answers) asked

-- The answer is before the first question.
pub told-first : (wait : ℕ) (question answer : Said) (questions answers : List Said) → is_late wait answer question ≡ false → ltb answer.line question.line ≡ true
    → told wait (question ∷ questions) (answer ∷ answers) ≡ TheirsAlone answer ∷ told wait (question ∷ questions) answers
told-first wait question answer questions answers is unasked =
    in-time wait question answer questions answers is
    ∙ ap (λ (b : Bool). cond b (TheirsAlone answer ∷ []) (told_of_pair question answer) ++ told wait (cond b (question ∷ questions) questions) answers) unasked

-- The answer is before all questions that are left.
pub told-unasked : (wait : ℕ) (answer : Said) (questions answers : List Said) → AllByRecursion (λ (said : Said). (answer.line < said.line) × (answer.time ≤ said.time)) questions
    → told wait questions (answer ∷ answers) ≡ TheirsAlone answer ∷ told wait questions answers
told-unasked wait answer [] answers later = refl
told-unasked wait answer (question ∷ questions) answers later =
    let first = later.0 in
    let in_time_is : is_late wait answer question ≡ false = (let time = first.1 in grind (arith, nat_tests)) in
    let unasked : ltb answer.line question.line ≡ true = (let line = first.0 in grind (arith, nat_tests)) in
    told-first wait question answer questions answers in_time_is unasked

-- ---- overdue questions

-- Questions that are overdue are alone, whatever answers come from then on.
pub told-overdue : (wait now : ℕ) (overdue questions answers : List Said) → AllByRecursion (IsOverdue wait now) overdue → AllByRecursion (λ (said : Said). now ≤ said.time) answers
    → told wait (overdue ++ questions) answers ≡ map OursAlone overdue ++ told wait questions answers
told-overdue wait now overdue questions [] each later = map-append OursAlone overdue questions
told-overdue wait now [] questions (answer ∷ answers) each later = refl
told-overdue wait now (first ∷ overdue) questions (answer ∷ answers) each later =
    told-late wait first answer (overdue ++ questions) answers (let old = each.0 in let time = later.0 in grind (arith, nat_tests))
    ∙ ap (λ (list : List Difference). OursAlone first ∷ list) (told-overdue wait now overdue questions (answer ∷ answers) each.1 later)
