-- The rest of a list from an index on.
use Rattle.std.proofs.Common.{◌≡◌, ◌≤◌, ℕ, zero, suc, List, [], ◌∷◌, length, drop, arith, Some, None, refl, sym, ap, ◌∙◌}
use Rattle.std.proofs.lemmas.Option.{same_Some}
use Rattle.std.specs.List.{slice_get}
use Rattle.vt_names.proofs.AddressesAfterClaim.{none-some}

-- the rest of a list from the index of an element on
pub dropped : {X : Type 0} (xs : List X) (i : ℕ) (x : X) → slice_get xs i ≡ Some x → drop i xs ≡ x ∷ drop (suc i) xs
dropped [] i x e = none-some e
dropped (y ∷ xs) zero x e = ap (λ z. z ∷ xs) (same_Some y x e)
dropped (y ∷ xs) (suc i) x e = dropped xs i x e

-- An index without an element is not below the length of the list.
pub beyond : {X : Type 0} (xs : List X) (i : ℕ) → slice_get xs i ≡ None → length xs ≤ i
beyond [] i none = omega arith
beyond (x ∷ xs) zero none = none-some (sym none)
beyond (x ∷ xs) (suc i) none = let rest = beyond xs i none in omega arith

-- The rest of a list from its end on is empty.
pub all-dropped : {X : Type 0} (xs : List X) (n : ℕ) → n ≡ length xs → drop n xs ≡ []
all-dropped [] n is = ap (λ k. drop k []) is
all-dropped (x ∷ xs) n is = ap (λ k. drop k (x ∷ xs)) is ∙ all-dropped xs (length xs) refl
