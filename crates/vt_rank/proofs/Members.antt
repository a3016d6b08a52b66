-- Elements of lists, and their positions.
use Rattle.std.proofs.Common.{◌≡◌, ℕ, ◌⊎◌, inl, inr, List, [], ◌∷◌, ◌++◌, sym, ap, subst, arith}
use Rattle.std.specs.List.{Contains}
use Rattle.vt_rank.specs.Paths.{IsDistinct}
use Rattle.std.proofs.lemmas.List.Elements.{Contains-append_left, Contains-append_right, Contains-append_cases, Contains-push, Contains-push_cases}

pub Contains-nil : {X : Type 0} (x : X) → Contains [] x → ⊥
Contains-nil x h = omega (arith, h.1)

pub Contains-head : {X : Type 0} (x : X) (xs : List X) → Contains (x ∷ xs) x
Contains-head x xs = Contains-append_left (x ∷ []) xs x (Contains-push [] x)

pub Contains-tail : {X : Type 0} (y x : X) (xs : List X) → Contains xs x → Contains (y ∷ xs) x
Contains-tail y x xs h = Contains-append_right (y ∷ []) xs x h

pub Contains-cons_cases : {X : Type 0} (y x : X) (xs : List X) → Contains (y ∷ xs) x → (y ≡ x) ⊎ Contains xs x
Contains-cons_cases y x xs h =
    elim (Contains-append_cases (y ∷ []) xs x h) as (λ _. (y ≡ x) ⊎ Contains xs x) [
      | inl only ↦ elim (Contains-push_cases [] y x only) as (λ _. (y ≡ x) ⊎ Contains xs x) [ inl none ↦ absurd (Contains-nil x none) | inr e ↦ inl e ]
      | inr later ↦ inr later
    ]

-- a list split around an element
pub around : (x : ℕ) (xs : List ℕ) → Contains xs x → (before : List ℕ) × (after : List ℕ) × (xs ≡ before ++ x ∷ after)
around x [] h = absurd (Contains-nil x h)
around x (y ∷ ys) h =
    elim (Contains-cons_cases y x ys h) as (λ _. (before : List ℕ) × (after : List ℕ) × (y ∷ ys ≡ before ++ x ∷ after)) [
      | inl e ↦ ([], ys, ap (λ (z : ℕ). z ∷ ys) e)
      | inr later ↦ let r = around x ys later in (y ∷ r.0, r.1, ap (λ (zs : List ℕ). y ∷ zs) r.2)
    ]

-- ---- lists of distinct elements

pub IsDistinct-push : (xs : List ℕ) (y : ℕ) → IsDistinct xs → (Contains xs y → ⊥) → IsDistinct (xs ++ y ∷ [])
IsDistinct-push [] y d apart = (Contains-nil y, tt)
IsDistinct-push (x ∷ xs) y d apart = (
  λ h. elim (Contains-push_cases xs y x h) as (λ _. ⊥) [ inl inside ↦ d.0 inside | inr same ↦ apart (subst (λ (z : ℕ). Contains (x ∷ xs) z) (sym same) (Contains-head x xs)) ],
  IsDistinct-push xs y d.1 (λ h. apart (Contains-tail x y xs h)),
)

pub IsDistinct-pop : (xs : List ℕ) (y : ℕ) → IsDistinct (xs ++ y ∷ []) → IsDistinct xs × (Contains xs y → ⊥)
IsDistinct-pop [] y d = (tt, Contains-nil y)
IsDistinct-pop (x ∷ xs) y d =
    let rest = IsDistinct-pop xs y d.1 in (
      (λ h. d.0 (Contains-append_left xs (y ∷ []) x h), rest.0),
      λ h. elim (Contains-cons_cases x y xs h) as (λ _. ⊥) [ inl same ↦ d.0 (subst (λ (z : ℕ). Contains (xs ++ y ∷ []) z) (sym same) (Contains-push xs y)) | inr inside ↦ rest.1 inside ],
    )
