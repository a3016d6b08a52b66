-- The first of all that fails.
use Rattle.std.proofs.Common.{◌≡◌, Bool, true, false, cond, not, List, [], ◌∷◌, ◌++◌, map, Option, Some, refl, ap}
use Rattle.vt_verify.specs.Lists.{first_failing}
use Rattle.check_inspect.specs.Lists.{all_failing}

pub head_case : {A : Type 0} (P : Type 0) (xs ys : List A) (g : A) (others : List A) → xs ++ ys ≡ g ∷ others → ((tail : List A) → xs ≡ g ∷ tail → P)
    → (xs ≡ [] → ys ≡ g ∷ others → P) → P
head_case P [] ys g others is first later = later refl is
head_case P (x ∷ xs) ys g others is first later = first xs (let same : x ≡ g = cc in ap (λ y. y ∷ xs) same)

pub map_head : {A B : Type 0} (f : A → B) (xs : List A) (g : B) (others : List B) → map f xs ≡ g ∷ others → (x : A) × (rest : List A) × (xs ≡ x ∷ rest) × (f x ≡ g)
map_head f [] g others is = absurd cc
map_head f (x ∷ xs) g others is = (x, xs, refl, cc)

module _ {A B : Type 0} (test : B → Bool) (f : A → B) where
  first_case : (b : Bool) (x y : A) (kept rest : List A) (later : Option B) → cond (not b) (x ∷ kept) kept ≡ y ∷ rest → (kept ≡ y ∷ rest → later ≡ Some (f y))
      → cond b later (Some (f x)) ≡ Some (f y)
  first_case true x y kept rest later is next = next is
  first_case false x y kept rest later is next = let same : x ≡ y = cc in ap (λ z. Some (f z)) same

  -- the first of all that fails is the first that fails
  pub first_of_all : (xs : List A) (y : A) (rest : List A) → all_failing (λ x. test (f x)) xs ≡ y ∷ rest → first_failing test (map f xs) ≡ Some (f y)
  first_of_all [] y rest is = absurd cc
  first_of_all (x ∷ xs) y rest is =
      first_case (test (f x)) x y (all_failing (λ x. test (f x)) xs) rest (first_failing test (map f xs)) is (first_of_all xs y rest)
