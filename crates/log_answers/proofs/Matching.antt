-- A comparison under way, step by step.
use Rattle.std.proofs.Common.{◌≡◌, ◌∙◌, ℕ, ◌+◌, ◌<◌, ◌≤◌, ltb, Bool, true, false, cond, List, [], ◌∷◌, ◌++◌, map, Option, Some, None, refl, sym, ap, subst, arith, append_assoc}
use Rattle.std.proofs.lemmas.Bool.Decides.{nat_tests}
use Rattle.std.proofs.lemmas.List.{append-nil}
use Rattle.std.proofs.lemmas.List.Elements.{filter-append}
use Rattle.std.specs.List.{AllByRecursion}
use Rattle.std.specs.Str.{bytes_eq}
use Rattle.log_answers.specs.declared.difference.Difference.{Difference}
use Rattle.log_answers.specs.declared.difference.Difference.TheVariants.{Differ, OursAlone, TheirsAlone}
use Rattle.log_answers.specs.declared.said.Said.{Said}
use Rattle.log_answers.specs.declared.topic.Topic.{Topic}
use Rattle.log_answers.specs.Matches.{AreLater, AreMatched, AreOpen}
use Rattle.log_answers.specs.Messages.{is_on, on_topic}
use Rattle.log_answers.specs.OpenQuestions.{IsOverdue, TakesOldest, told_of_answer, told_of_pair}
use Rattle.log_answers.specs.Tellings.{differences_on, told, topic_of_difference}
use Rattle.log_answers.specs.Topics.{same_topic}
use Rattle.log_answers.proofs.OnTopics.{all-filter, differences_on-ours_alone, on_topic-no, on_topic-none, on_topic-yes, same_topic-true}
use Rattle.log_answers.proofs.OpenInOrder.{AreInTime, in-time-one, open-one}
use Rattle.log_answers.proofs.ToldOfTopics.{told-overdue, told-pair, told-unasked}

on-append : (topic : Topic) (xs ys : List Said) → on_topic topic (xs ++ ys) ≡ on_topic topic xs ++ on_topic topic ys
on-append topic xs ys = filter-append (is_on topic) xs ys

differences-append : (topic : Topic) (xs ys : List Difference) → differences_on topic (xs ++ ys) ≡ differences_on topic xs ++ differences_on topic ys
differences-append topic xs ys = filter-append (λ difference. same_topic (topic_of_difference difference) topic) xs ys

all-weaker : {X : Type 0} (P Q : X → Type 0) (xs : List X) → ((x : X) → P x → Q x) → AllByRecursion P xs → AllByRecursion Q xs
all-weaker P Q [] weaker all = tt
all-weaker P Q (x ∷ xs) weaker all = (weaker x all.0, all-weaker P Q xs weaker all.1)

all-append : {X : Type 0} (P : X → Type 0) (xs ys : List X) → AllByRecursion P xs → AllByRecursion P ys → AllByRecursion P (xs ++ ys)
all-append P [] ys front back = back
all-append P (x ∷ xs) ys front back = (front.0, all-append P xs ys front.1 back)

sooner : (line now line' now' : ℕ) (messages : List Said) → line ≤ line' → now ≤ now' → AreLater line' now' messages → AreLater line now messages
sooner line now line' now' messages lines times later =
    all-weaker (λ (said : Said). (line' < said.line) × (now' ≤ said.time)) (λ (said : Said). (line < said.line) × (now ≤ said.time)) messages
    (λ said both. (let its = both.0 in omega arith, let its = both.1 in omega arith)) later

-- ---- the beginning, and later lines

pub none-matched : (wait line now : ℕ) → AreMatched wait line now [] [] [] []
none-matched wait line now = record { later = λ topic more_questions more_answers questions_later answers_later. refl }

pub matched-later : (wait line now line' now' : ℕ) (questions answers unanswered : List Said) (differences : List Difference) → line ≤ line' → now ≤ now'
    → AreMatched wait line now questions answers unanswered differences → AreMatched wait line' now' questions answers unanswered differences
matched-later wait line now line' now' questions answers unanswered differences lines times are =
    record {
      later = λ topic more_questions more_answers questions_later answers_later.
          are.later topic more_questions more_answers (sooner line now line' now' more_questions lines times questions_later) (sooner line now line' now' more_answers lines times answers_later);
    }

-- ---- questions

pub matched-asked : (wait line now : ℕ) (questions answers unanswered new : List Said) (differences : List Difference) → AreLater line now new
    → AreMatched wait line now questions answers unanswered differences → AreMatched wait line now (questions ++ new) answers (unanswered ++ new) differences
matched-asked wait line now questions answers unanswered new differences new_later are =
    record {
      later = λ topic more_questions more_answers questions_later answers_later.
          ap (λ (list : List Said). told wait (on_topic topic list) (on_topic topic (answers ++ more_answers))) (append_assoc questions new more_questions)
          ∙ are.later topic (new ++ more_questions) more_answers (all-append (λ (said : Said). (line < said.line) × (now ≤ said.time)) new more_questions new_later questions_later) answers_later
          ∙ ap (λ (list : List Said). differences_on topic differences ++ told wait (on_topic topic list) (on_topic topic more_answers)) (sym (append_assoc unanswered new more_questions));
    }

-- ---- overdue questions

pub matched-expired : (wait line now now' : ℕ) (questions answers overdue unanswered : List Said) (differences : List Difference) → now ≤ now'
    → AllByRecursion (IsOverdue wait now') overdue
    → AreMatched wait line now questions answers (overdue ++ unanswered) differences → AreMatched wait line now' questions answers unanswered (differences ++ map OursAlone overdue)
matched-expired wait line now now' questions answers overdue unanswered differences times each are =
    record {
      later = λ topic more_questions more_answers questions_later answers_later.
          let before = on_topic topic overdue in
          let after = on_topic topic (unanswered ++ more_questions) in
          let times_later = all-filter (λ (said : Said). now' ≤ said.time) (is_on topic) more_answers
          (all-weaker (λ (said : Said). (line < said.line) × (now' ≤ said.time)) (λ (said : Said). now' ≤ said.time) more_answers (λ said both. both.1) answers_later) in
          are.later topic more_questions more_answers (sooner line now line now' more_questions (omega arith) times questions_later) (sooner line now line now' more_answers (omega arith) times answers_later)
          ∙ ap (λ (list : List Said). differences_on topic differences ++ told wait list (on_topic topic more_answers))
          (ap (on_topic topic) (append_assoc overdue unanswered more_questions) ∙ on-append topic overdue (unanswered ++ more_questions))
          ∙ ap (λ (list : List Difference). differences_on topic differences ++ list)
          (told-overdue wait now' before after (on_topic topic more_answers) (all-filter (IsOverdue wait now') (is_on topic) overdue each) times_later)
          ∙ sym (append_assoc (differences_on topic differences) (map OursAlone before) (told wait after (on_topic topic more_answers)))
          ∙ ap (λ (list : List Difference). list ++ told wait after (on_topic topic more_answers))
          (sym (differences-append topic differences (map OursAlone overdue) ∙ ap (λ (list : List Difference). differences_on topic differences ++ list) (differences_on-ours_alone topic overdue)));
    }

-- ---- an answer

-- Both are on the same topics.
same-tests : (topic : Topic) (a b : Said) → a.topic ≡ b.topic → is_on topic a ≡ is_on topic b
same-tests topic a b same = ap (λ (t : Topic). same_topic t topic) same

others-on : (topic : Topic) (answer : Said) (xs : List Said) → is_on topic answer ≡ true → AllByRecursion (λ other. is_on answer.topic other ≡ false) xs → AllByRecursion (λ other. is_on topic other ≡ false) xs
others-on topic answer xs is none = subst (λ (t : Topic). AllByRecursion (λ other. is_on t other ≡ false) xs) (same_topic-true answer.topic topic is) none

differences-one-yes : (topic : Topic) (difference : Difference) → same_topic (topic_of_difference difference) topic ≡ true → differences_on topic (difference ∷ []) ≡ difference ∷ []
differences-one-yes topic difference is = ap (λ (b : Bool). cond b (difference ∷ []) []) is

differences-one-no : (topic : Topic) (difference : Difference) → same_topic (topic_of_difference difference) topic ≡ false → differences_on topic (difference ∷ []) ≡ []
differences-one-no topic difference is = ap (λ (b : Bool). cond b (difference ∷ []) []) is

pair-yes : (topic : Topic) (ours theirs : Said) (equal : Bool) → same_topic ours.topic topic ≡ true
    → differences_on topic (cond equal [] (Differ ours theirs ∷ [])) ≡ cond equal [] (Differ ours theirs ∷ [])
pair-yes topic ours theirs true is = refl
pair-yes topic ours theirs false is = differences-one-yes topic (Differ ours theirs) is

pair-no : (topic : Topic) (ours theirs : Said) (equal : Bool) → same_topic ours.topic topic ≡ false → differences_on topic (cond equal [] (Differ ours theirs ∷ [])) ≡ []
pair-no topic ours theirs true is = refl
pair-no topic ours theirs false is = differences-one-no topic (Differ ours theirs) is

-- What is told with the open questions and an answer, on a topic.
pub record IsToldFirst (wait : ℕ) (topic : Topic) (answer : Said) (old new : List Said) (told_of : List Difference) (more_questions more_answers : List Said) : Type 0 where
  pub is : told wait (on_topic topic (old ++ more_questions)) (on_topic topic (answer ∷ more_answers))
      ≡ differences_on topic told_of ++ told wait (on_topic topic (new ++ more_questions)) (on_topic topic more_answers)

later-of : (answer : Said) (topic : Topic) (messages : List Said) → AreLater answer.line answer.time messages
    → AllByRecursion (λ (said : Said). (answer.line < said.line) × (answer.time ≤ said.time)) (on_topic topic messages)
later-of answer topic messages later = all-filter (λ (said : Said). (answer.line < said.line) × (answer.time ≤ said.time)) (is_on topic) messages later

first-unasked : (wait : ℕ) (topic : Topic) (answer : Said) (old more_questions more_answers : List Said) (b : Bool) → is_on topic answer ≡ b
    → AllByRecursion (λ other. is_on answer.topic other ≡ false) old → AreLater answer.line answer.time more_questions
    → IsToldFirst wait topic answer old old (TheirsAlone answer ∷ []) more_questions more_answers
first-unasked wait topic answer old more_questions more_answers true is none later =
    let nothing : on_topic topic (old ++ more_questions) ≡ on_topic topic more_questions =
    on-append topic old more_questions ∙ ap (λ (list : List Said). list ++ on_topic topic more_questions) (on_topic-none topic old (others-on topic answer old is none)) in
    record {
      is =
          ap (λ (list : List Said). told wait list (on_topic topic (answer ∷ more_answers))) nothing
          ∙ ap (told wait (on_topic topic more_questions)) (on_topic-yes topic answer more_answers is)
          ∙ told-unasked wait answer (on_topic topic more_questions) (on_topic topic more_answers) (later-of answer topic more_questions later)
          ∙ ap (λ (list : List Difference). list ++ told wait (on_topic topic more_questions) (on_topic topic more_answers)) (sym (differences-one-yes topic (TheirsAlone answer) is))
          ∙ ap (λ (list : List Said). differences_on topic (TheirsAlone answer ∷ []) ++ told wait list (on_topic topic more_answers)) (sym nothing);
    }
first-unasked wait topic answer old more_questions more_answers false is none later =
    record {
      is =
          ap (told wait (on_topic topic (old ++ more_questions))) (on_topic-no topic answer more_answers is)
          ∙ ap (λ (list : List Difference). list ++ told wait (on_topic topic (old ++ more_questions)) (on_topic topic more_answers)) (sym (differences-one-no topic (TheirsAlone answer) is));
    }

first-asked : (wait : ℕ) (topic : Topic) (answer question : Said) (front back more_questions more_answers : List Said) (b : Bool) → is_on topic answer ≡ b
    → question.topic ≡ answer.topic → AllByRecursion (λ other. is_on answer.topic other ≡ false) front → question.line ≤ answer.line → answer.time ≤ question.time + wait
    → IsToldFirst wait topic answer (front ++ question ∷ back) (front ++ back) (told_of_pair question answer) more_questions more_answers
first-asked wait topic answer question front back more_questions more_answers true is same none line in_time =
    let rest = on_topic topic (back ++ more_questions) in
    let its : is_on topic question ≡ true = same-tests topic question answer same ∙ is in
    let front_none : on_topic topic front ≡ [] = on_topic-none topic front (others-on topic answer front is none) in
    let old : on_topic topic ((front ++ question ∷ back) ++ more_questions) ≡ question ∷ rest =
    ap (on_topic topic) (append_assoc front (question ∷ back) more_questions) ∙ on-append topic front (question ∷ back ++ more_questions)
    ∙ ap (λ (list : List Said). list ++ on_topic topic (question ∷ back ++ more_questions)) front_none ∙ on_topic-yes topic question (back ++ more_questions) its in
    let new : on_topic topic ((front ++ back) ++ more_questions) ≡ rest =
    ap (on_topic topic) (append_assoc front back more_questions) ∙ on-append topic front (back ++ more_questions) ∙ ap (λ (list : List Said). list ++ rest) front_none in
    let is_in_time : ltb (question.time + wait) answer.time ≡ false = grind (arith, nat_tests) in
    let is_asked : ltb answer.line question.line ≡ false = grind (arith, nat_tests) in
    record {
      is =
          ap (λ (list : List Said). told wait list (on_topic topic (answer ∷ more_answers))) old
          ∙ ap (told wait (question ∷ rest)) (on_topic-yes topic answer more_answers is)
          ∙ told-pair wait question answer rest (on_topic topic more_answers) is_in_time is_asked
          ∙ ap (λ (list : List Difference). list ++ told wait rest (on_topic topic more_answers)) (sym (pair-yes topic question answer (bytes_eq question.bytes.items answer.bytes.items) its))
          ∙ ap (λ (list : List Said). differences_on topic (told_of_pair question answer) ++ told wait list (on_topic topic more_answers)) (sym new);
    }
first-asked wait topic answer question front back more_questions more_answers false is same none line in_time =
    let its : is_on topic question ≡ false = same-tests topic question answer same ∙ is in
    let kept : on_topic topic ((front ++ question ∷ back) ++ more_questions) ≡ on_topic topic ((front ++ back) ++ more_questions) =
    ap (on_topic topic) (append_assoc front (question ∷ back) more_questions) ∙ on-append topic front (question ∷ back ++ more_questions)
    ∙ ap (λ (list : List Said). on_topic topic front ++ list) (on_topic-no topic question (back ++ more_questions) its)
    ∙ sym (on-append topic front (back ++ more_questions)) ∙ ap (on_topic topic) (sym (append_assoc front back more_questions)) in
    record {
      is =
          ap (told wait (on_topic topic ((front ++ question ∷ back) ++ more_questions))) (on_topic-no topic answer more_answers is)
          ∙ ap (λ (list : List Said). told wait list (on_topic topic more_answers)) kept
          ∙ ap (λ (list : List Difference). list ++ told wait (on_topic topic ((front ++ back) ++ more_questions)) (on_topic topic more_answers))
          (sym (pair-no topic question answer (bytes_eq question.bytes.items answer.bytes.items) its));
    }

first-told : (wait : ℕ) (topic : Topic) (answer : Said) (old new : List Said) (question : Option Said) (more_questions more_answers : List Said)
    → TakesOldest answer.topic old question new → AreOpen answer.line answer.time old → AreInTime wait answer.time old → AreLater answer.line answer.time more_questions
    → IsToldFirst wait topic answer old new (told_of_answer question answer) more_questions more_answers
first-told wait topic answer old new None more_questions more_answers takes open_ in_time later =
    subst (λ (list : List Said). IsToldFirst wait topic answer old list (TheirsAlone answer ∷ []) more_questions more_answers) (sym takes.1)
    (first-unasked wait topic answer old more_questions more_answers (is_on topic answer) refl takes.0 later)
first-told wait topic answer old new (Some question) more_questions more_answers takes open_ in_time later =
    let told_first = first-asked wait topic answer question takes.front takes.back more_questions more_answers (is_on topic answer) refl
    (same_topic-true question.topic answer.topic takes.on_topic) takes.others
    (open-one answer.line answer.time takes.front takes.back question (subst (AreOpen answer.line answer.time) takes.whole open_))
    (in-time-one wait answer.time takes.front takes.back question (subst (AreInTime wait answer.time) takes.whole in_time)) in
    subst (λ (list : List Said). IsToldFirst wait topic answer old list (told_of_pair question answer) more_questions more_answers) (sym takes.rest)
    (subst (λ (list : List Said). IsToldFirst wait topic answer list (takes.front ++ takes.back) (told_of_pair question answer) more_questions more_answers) (sym takes.whole) told_first)

pub matched-answered : (wait line now : ℕ) (questions answers old new : List Said) (differences : List Difference) (answer : Said) (question : Option Said)
    → line < answer.line → now ≤ answer.time → TakesOldest answer.topic old question new → AreOpen answer.line answer.time old → AreInTime wait answer.time old
    → AreMatched wait line now questions answers old differences
    → AreMatched wait answer.line answer.time questions (answers ++ answer ∷ []) new (differences ++ told_of_answer question answer)
matched-answered wait line now questions answers old new differences answer question line_later time_later takes open_ in_time are =
    record {
      later = λ topic more_questions more_answers questions_later answers_later.
          let first = first-told wait topic answer old new question more_questions more_answers takes open_ in_time questions_later in
          let told_of = told_of_answer question answer in
          let after = told wait (on_topic topic (new ++ more_questions)) (on_topic topic more_answers) in
          ap (λ (list : List Said). told wait (on_topic topic (questions ++ more_questions)) (on_topic topic list)) (append_assoc answers (answer ∷ []) more_answers)
          ∙ are.later topic more_questions (answer ∷ more_answers) (sooner line now answer.line answer.time more_questions (omega arith) time_later questions_later)
          ((line_later, time_later), sooner line now answer.line answer.time more_answers (omega arith) time_later answers_later)
          ∙ ap (λ (list : List Difference). differences_on topic differences ++ list) first.is
          ∙ sym (append_assoc (differences_on topic differences) (differences_on topic told_of) after)
          ∙ ap (λ (list : List Difference). list ++ after) (sym (differences-append topic differences told_of));
    }

-- ---- the end

pub matched-ended : (wait line now : ℕ) (questions answers unanswered : List Said) (differences : List Difference) → AreMatched wait line now questions answers unanswered differences
    → (topic : Topic) → differences_on topic (differences ++ map OursAlone unanswered) ≡ told wait (on_topic topic questions) (on_topic topic answers)
matched-ended wait line now questions answers unanswered differences are topic =
    let whole = are.later topic [] [] tt tt in
    differences-append topic differences (map OursAlone unanswered)
    ∙ ap (λ (list : List Difference). differences_on topic differences ++ list) (differences_on-ours_alone topic unanswered)
    ∙ ap (λ (list : List Said). differences_on topic differences ++ map OursAlone (on_topic topic list)) (sym (append-nil unanswered))
    ∙ sym whole
    ∙ ap (λ (list : List Said). told wait (on_topic topic list) (on_topic topic (answers ++ []))) (append-nil questions)
    ∙ ap (λ (list : List Said). told wait (on_topic topic questions) (on_topic topic list)) (append-nil answers)
