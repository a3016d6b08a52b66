-- Membership of elements in lists.
use Rattle.std.proofs.Common.{◌≡◌, List, [], ◌∷◌, Option, Some, None, refl, arith, inl, inr}
use Rattle.std.specs.Prelude.{Contains}
use Rattle.std.proofs.lemmas.List.Elements.{Contains-append_left, Contains-append_right, Contains-append_cases, Contains-push, Contains-push_cases}

pub Contains-nil : {X : Type 0} (x : X) → Contains [] x → ⊥
Contains-nil x h = omega (arith, h.1)

pub Contains-head : {X : Type 0} (x : X) (xs : List X) → Contains (x ∷ xs) x
Contains-head x xs = Contains-append_left (x ∷ []) xs x (Contains-push [] x)

pub Contains-tail : {X : Type 0} (y x : X) (xs : List X) → Contains xs x → Contains (y ∷ xs) x
Contains-tail y x xs h = Contains-append_right (y ∷ []) xs x h

pub cons_case : {X : Type 0} (P : Type 0) (y x : X) (xs : List X) → Contains (y ∷ xs) x → (y ≡ x → P) → (Contains xs x → P) → P
cons_case P y x xs h here later =
    elim (Contains-append_cases (y ∷ []) xs x h) as (λ _. P) [
      | inl only ↦ elim (Contains-push_cases [] y x only) as (λ _. P) [ inl none ↦ absurd (Contains-nil x none) | inr e ↦ here e ]
      | inr rest ↦ later rest
    ]

abbrev pub unsome : {X : Type 0} → X → Option X → X
unsome d None = d
unsome d (Some x) = x

pub option_case : {X : Type 0} (P : Type 0) (o : Option X) → (o ≡ None → P) → ((x : X) → o ≡ Some x → P) → P
option_case P None none some = none refl
option_case P (Some x) none some = some x refl
