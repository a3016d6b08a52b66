-- Nothing is told exactly if each question has an equal answer in time.
use Rattle.std.proofs.Common.{◌≡◌, ◌∙◌, ℕ, ltb, Bool, true, false, cond, List, [], ◌∷◌, ◌++◌, map, refl, sym, ap, arith}
use Rattle.std.proofs.lemmas.Bool.Decides.{nat_tests}
use Rattle.std.proofs.lemmas.Slice.Eq.{bytes_eq-Decides}
use Rattle.std.specs.List.{AllZip}
use Rattle.std.specs.Str.{bytes_eq}
use Rattle.log_answers.specs.declared.difference.Difference.{Difference}
use Rattle.log_answers.specs.declared.difference.Difference.TheVariants.{Differ, OursAlone, TheirsAlone}
use Rattle.log_answers.specs.declared.said.Said.{Said}
use Rattle.log_answers.specs.declared.topic.Topic.{Topic}
use Rattle.log_answers.specs.Tellings.{IsAnswered, differences_on, is_late, told, topic_of_difference}
use Rattle.log_answers.proofs.OnTopics.{same_topic-self}
use Rattle.log_answers.proofs.ToldOfTopics.{told-first, told-late, told-pair}

some_is_none : (difference : Difference) (rest : List Difference) → difference ∷ rest ≡ [] → ⊥
some_is_none difference rest none = let both : difference ∷ rest ≡ [] = none in cc

-- ---- nothing is told, so all is answered

pair_is_equal : (question answer : Said) (rest : List Difference) (b : Bool) → bytes_eq question.bytes.items answer.bytes.items ≡ b
    → cond b [] (Differ question answer ∷ []) ++ rest ≡ [] → (question.bytes.items ≡ answer.bytes.items) × (rest ≡ [])
pair_is_equal question answer rest true is none = ((bytes_eq-Decides question.bytes.items answer.bytes.items).0 is, none)
pair_is_equal question answer rest false is none = absurd (some_is_none (Differ question answer) rest none)

asked_before : (wait : ℕ) (question answer : Said) (questions answers : List Said) (b : Bool) → is_late wait answer question ≡ false → ltb answer.line question.line ≡ b
    → told wait (question ∷ questions) (answer ∷ answers) ≡ []
    → (told wait questions answers ≡ [] → AllZip (IsAnswered wait) questions answers) → AllZip (IsAnswered wait) (question ∷ questions) (answer ∷ answers)
asked_before wait question answer questions answers true in_time is none later =
    absurd (some_is_none (TheirsAlone answer) (told wait (question ∷ questions) answers) (sym (told-first wait question answer questions answers in_time is) ∙ none))
asked_before wait question answer questions answers false in_time is none later =
    let both = pair_is_equal question answer (told wait questions answers) (bytes_eq question.bytes.items answer.bytes.items) refl (sym (told-pair wait question answer questions answers in_time is) ∙ none) in
    (record { equal = both.0; asked = grind (arith, nat_tests); in_time = grind (arith, nat_tests) }, later both.1)

first_in_time : (wait : ℕ) (question answer : Said) (questions answers : List Said) (b : Bool) → is_late wait answer question ≡ b → told wait (question ∷ questions) (answer ∷ answers) ≡ []
    → (told wait questions answers ≡ [] → AllZip (IsAnswered wait) questions answers) → AllZip (IsAnswered wait) (question ∷ questions) (answer ∷ answers)
first_in_time wait question answer questions answers true is none later =
    absurd (some_is_none (OursAlone question) (told wait questions (answer ∷ answers)) (sym (told-late wait question answer questions answers is) ∙ none))
first_in_time wait question answer questions answers false is none later =
    asked_before wait question answer questions answers (ltb answer.line question.line) is refl none later

pub answered-from_nothing : (wait : ℕ) (questions answers : List Said) → told wait questions answers ≡ [] → AllZip (IsAnswered wait) questions answers
answered-from_nothing wait [] [] none = tt
answered-from_nothing wait (question ∷ questions) [] none = absurd (some_is_none (OursAlone question) (map OursAlone questions) none)
answered-from_nothing wait [] (answer ∷ answers) none = absurd (some_is_none (TheirsAlone answer) (told wait [] answers) none)
answered-from_nothing wait (question ∷ questions) (answer ∷ answers) none =
    first_in_time wait question answer questions answers (is_late wait answer question) refl none (answered-from_nothing wait questions answers)

-- ---- all is answered, so nothing is told

pub nothing-from_answered : (wait : ℕ) (questions answers : List Said) → AllZip (IsAnswered wait) questions answers → told wait questions answers ≡ []
nothing-from_answered wait [] [] all = refl
nothing-from_answered wait (question ∷ questions) [] all = absurd all
nothing-from_answered wait [] (answer ∷ answers) all = absurd all
nothing-from_answered wait (question ∷ questions) (answer ∷ answers) all =
    let first = all.0 in
    let in_time_is : is_late wait answer question ≡ false = (let it = first.in_time in grind (arith, nat_tests)) in
    let asked_is : ltb answer.line question.line ≡ false = (let it = first.asked in grind (arith, nat_tests)) in
    told-pair wait question answer questions answers in_time_is asked_is
    ∙ ap (λ (b : Bool). cond b [] (Differ question answer ∷ []) ++ told wait questions answers) ((bytes_eq-Decides question.bytes.items answer.bytes.items).1 first.equal)
    ∙ nothing-from_answered wait questions answers all.1

-- ---- on no topic

-- If on each topic there is no difference, there is none.
pub none-on_each_topic : (differences : List Difference) → ((topic : Topic) → differences_on topic differences ≡ []) → differences ≡ []
none-on_each_topic [] none = refl
none-on_each_topic (difference ∷ differences) none =
    let its = topic_of_difference difference in
    absurd (some_is_none difference (differences_on its differences)
    (sym (ap (λ (b : Bool). cond b (difference ∷ differences_on its differences) (differences_on its differences)) (same_topic-self its)) ∙ none its))
