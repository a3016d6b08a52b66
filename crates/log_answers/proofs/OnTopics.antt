-- Messages and differences on a topic.
use Rattle.std.proofs.Common.{◌≡◌, ◌∙◌, ℕ, eqb, Bool, true, false, cond, ◌&&◌, List, [], ◌∷◌, map, Option, Some, None, refl, ap}
use Rattle.std.proofs.lemmas.Bool.{eqb-true, eq-eqb}
use Rattle.std.specs.List.{AllByRecursion, filter}
use Rattle.log_answers.specs.declared.difference.Difference.{Difference}
use Rattle.log_answers.specs.declared.difference.Difference.TheVariants.{OursAlone}
use Rattle.log_answers.specs.declared.said.Said.{Said}
use Rattle.log_answers.specs.declared.topic.Topic.{Topic}
use Rattle.log_answers.specs.Messages.{is_on, on_topic}
use Rattle.log_answers.specs.Tellings.{differences_on}
use Rattle.log_answers.specs.Topics.{same_object, same_topic}

-- ---- one topic

both : (a b : Bool) → (a && b) ≡ true → (a ≡ true) × (b ≡ true)
both true b is = (refl, is)
both false b is = absurd (let wrong : false ≡ true = is in cc)

same_object-true : (a b : Option ℕ) → same_object a b ≡ true → a ≡ b
same_object-true None None is = refl
same_object-true None (Some b) is = absurd (let wrong : false ≡ true = is in cc)
same_object-true (Some a) None is = absurd (let wrong : false ≡ true = is in cc)
same_object-true (Some a) (Some b) is = ap Some (eqb-true a b is)

same_object-self : (a : Option ℕ) → same_object a a ≡ true
same_object-self None = refl
same_object-self (Some a) = eq-eqb a a refl

topics_equal : (a b : Topic) → a.destination ≡ b.destination → a.function ≡ b.function → a.object ≡ b.object → a ≡ b
topics_equal a b destination function object =
    ap (λ (d : ℕ). record a { destination = d }) destination ∙ ap (λ (f : ℕ). record a { destination = b.destination; function = f }) function
    ∙ ap (λ (o : Option ℕ). record b { object = o }) object

pub same_topic-true : (a b : Topic) → same_topic a b ≡ true → a ≡ b
same_topic-true a b is =
    let objects = both (eqb a.destination b.destination && eqb a.function b.function) (same_object a.object b.object) is in
    let numbers = both (eqb a.destination b.destination) (eqb a.function b.function) objects.0 in
    topics_equal a b (eqb-true a.destination b.destination numbers.0) (eqb-true a.function b.function numbers.1) (same_object-true a.object b.object objects.1)

pub same_topic-self : (a : Topic) → same_topic a a ≡ true
same_topic-self a =
    ap (λ (t : Bool). (t && eqb a.function a.function) && same_object a.object a.object) (eq-eqb a.destination a.destination refl)
    ∙ ap (λ (t : Bool). t && same_object a.object a.object) (eq-eqb a.function a.function refl)
    ∙ same_object-self a.object

-- ---- lists

all-cons : {X : Type 0} (P : X → Type 0) (b : Bool) (x : X) (rest : List X) → P x → AllByRecursion P rest → AllByRecursion P (cond b (x ∷ rest) rest)
all-cons P true x rest one all = (one, all)
all-cons P false x rest one all = all

pub all-filter : {X : Type 0} (P : X → Type 0) (p : X → Bool) (xs : List X) → AllByRecursion P xs → AllByRecursion P (filter p xs)
all-filter P p [] all = tt
all-filter P p (x ∷ xs) all = all-cons P (p x) x (filter p xs) all.0 (all-filter P p xs all.1)

-- none of the messages is on the topic
pub on_topic-none : (topic : Topic) (xs : List Said) → AllByRecursion (λ other. is_on topic other ≡ false) xs → on_topic topic xs ≡ []
on_topic-none topic [] none = refl
on_topic-none topic (x ∷ xs) none = ap (λ (b : Bool). cond b (x ∷ on_topic topic xs) (on_topic topic xs)) none.0 ∙ on_topic-none topic xs none.1

pub on_topic-yes : (topic : Topic) (x : Said) (xs : List Said) → is_on topic x ≡ true → on_topic topic (x ∷ xs) ≡ x ∷ on_topic topic xs
on_topic-yes topic x xs is = ap (λ (b : Bool). cond b (x ∷ on_topic topic xs) (on_topic topic xs)) is

pub on_topic-no : (topic : Topic) (x : Said) (xs : List Said) → is_on topic x ≡ false → on_topic topic (x ∷ xs) ≡ on_topic topic xs
on_topic-no topic x xs is = ap (λ (b : Bool). cond b (x ∷ on_topic topic xs) (on_topic topic xs)) is

one-alone : (b : Bool) (x : Said) (ours : List Difference) (rest : List Said) → ours ≡ map OursAlone rest → cond b (OursAlone x ∷ ours) ours ≡ map OursAlone (cond b (x ∷ rest) rest)
one-alone true x ours rest same = ap (λ (list : List Difference). OursAlone x ∷ list) same
one-alone false x ours rest same = same

-- questions told as alone, on a topic
pub differences_on-ours_alone : (topic : Topic) (xs : List Said) → differences_on topic (map OursAlone xs) ≡ map OursAlone (on_topic topic xs)
differences_on-ours_alone topic [] = refl
differences_on-ours_alone topic (x ∷ xs) = one-alone (same_topic x.topic topic) x (differences_on topic (map OursAlone xs)) (on_topic topic xs) (differences_on-ours_alone topic xs)
