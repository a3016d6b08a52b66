-- The oldest question on a topic, by its place.
use Rattle.std.proofs.Common.{◌≡◌, ◌∙◌, ℕ, zero, suc, ◌+◌, ◌<◌, Bool, true, false, cond, List, [], ◌∷◌, ◌++◌, Option, Some, None, is_some, IfSome, OnSome, length, get_or, slice_index_or, take, drop, refl, sym, ap, subst, arith}
use Rattle.std.specs.List.{AllByRecursion, position, position_from, remove}
use Rattle.std.proofs.lemmas.List.Quantifiers.{position-Some}
use Rattle.std.proofs.lemmas.Iterator.Adapters.{position_from-zero}
use Rattle.log_answers.specs.declared.said.Said.{Said}
use Rattle.log_answers.specs.declared.topic.Topic.{Topic}
use Rattle.log_answers.specs.Messages.{is_on}
use Rattle.log_answers.specs.OpenQuestions.{IsOldest, TakesOldest}

others_before : (topic : Topic) (xs : List Said) (place : ℕ) (d : Said) → place < length xs + 1 → ((k : ℕ) → k < place → is_on topic (get_or xs k d) ≡ false)
    → AllByRecursion (λ other. is_on topic other ≡ false) (take place xs)
others_before topic xs zero d within before = tt
others_before topic [] (suc place) d within before = tt
others_before topic (x ∷ xs) (suc place) d within before =
    (before 0 (omega arith), others_before topic xs place d (omega (arith, within)) (λ k below. before (suc k) (omega (arith, below))))

whole_at : (xs : List Said) (place : ℕ) (d : Said) → place < length xs → xs ≡ take place xs ++ get_or xs place d ∷ drop (suc place) xs
whole_at [] place d within = absurd (omega (arith, within))
whole_at (x ∷ xs) zero d within = refl
whole_at (x ∷ xs) (suc place) d within = ap (λ (rest : List Said). x ∷ rest) (whole_at xs place d (omega (arith, within)))

pub oldest_at : (topic : Topic) (questions : List Said) (place : ℕ) (question : Said) → position (is_on topic) questions ≡ Some place → question ≡ get_or questions place question
    → IsOldest topic questions question (remove questions place)
oldest_at topic questions place question at is =
    let found = position-Some (is_on topic) questions place question at in
    record {
      front = take place questions;
      back = drop (suc place) questions;
      whole = subst (λ (q : Said). questions ≡ take place questions ++ q ∷ drop (suc place) questions) (sym is) (whole_at questions place question found.0);
      others = others_before topic questions place question (let within = found.0 in omega arith) found.2;
      on_topic = ap (is_on topic) is ∙ found.1;
      rest = refl;
    }

none_step : (topic : Topic) (i : ℕ) (x : Said) (xs : List Said) (b : Bool) → is_on topic x ≡ b → cond b (Some i) (position_from (is_on topic) (i + 1) xs) ≡ None
    → (position_from (is_on topic) (i + 1) xs ≡ None → AllByRecursion (λ other. is_on topic other ≡ false) xs) → AllByRecursion (λ other. is_on topic other ≡ false) (x ∷ xs)
none_step topic i x xs true is none later = absurd (let both : Some i ≡ None = none in cc)
none_step topic i x xs false is none later = (is, later none)

none_from : (topic : Topic) (i : ℕ) (xs : List Said) → position_from (is_on topic) i xs ≡ None → AllByRecursion (λ other. is_on topic other ≡ false) xs
none_from topic i [] none = tt
none_from topic i (x ∷ xs) none = none_step topic i x xs (is_on topic x) refl none (none_from topic (i + 1) xs)

pub none_on : (topic : Topic) (questions : List Said) → position (is_on topic) questions ≡ None → AllByRecursion (λ other. is_on topic other ≡ false) questions
none_on topic questions none = none_from topic 0 questions (sym (position_from-zero (is_on topic) questions) ∙ none)

position_within : (topic : Topic) (questions : List Said) (place : ℕ) → position (is_on topic) questions ≡ Some place → place < length questions
position_within topic [] place at = absurd (let both : None ≡ Some place = at in cc)
position_within topic (question ∷ questions) place at = (position-Some (is_on topic) (question ∷ questions) place question at).0

-- What is removed at the place of the oldest question.
pub taken_at : (topic : Topic) (questions new : List Said) (place : ℕ) (result : Option Said) → position (is_on topic) questions ≡ Some place
    → (place < length questions → is_some result ≡ true) → IfSome result (λ question. question ≡ slice_index_or questions place question)
    → OnSome result (new ≡ remove questions place) → TakesOldest topic questions result new
taken_at topic questions new place None at some value rest =
    absurd (let found = position_within topic questions place at in let is = some found in let both : false ≡ true = is in cc)
taken_at topic questions new place (Some question) at some value rest =
    subst (IsOldest topic questions question) (sym rest) (oldest_at topic questions place question at value)
