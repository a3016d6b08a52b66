-- Changing the entries of a list one by one.
use Rattle.std.proofs.Common.{◌≡◌, ◌<◌, ◌+◌, ℕ, zero, suc, Bool, true, false, ◌||◌, List, [], ◌∷◌, ◌++◌, map, take, drop, length, set, refl, sym, ap, subst, ◌∙◌, arith, add-one}
use Rattle.std.specs.Prelude.{slice_index_or}
use Rattle.std.specs.List.{list_any}

abbrev pub up_to : {A : Type 0} → (A → A) → ℕ → List A → List A
up_to f index xs = map f (take index xs) ++ drop index xs

pub up_to_length : {A : Type 0} (f : A → A) (index : ℕ) (xs : List A) → length (up_to f index xs) ≡ length xs
up_to_length f zero xs = refl
up_to_length f (suc index) [] = refl
up_to_length f (suc index) (x ∷ xs) = ap suc (up_to_length f index xs)

-- one more entry is changed
set_next : {A : Type 0} (f : A → A) (index : ℕ) (xs : List A) (x : A) → index < length xs → x ≡ slice_index_or (up_to f index xs) index x
    → set (up_to f index xs) index (f x) ≡ up_to f (suc index) xs
set_next f zero [] x lt is = absurd (omega (arith, lt))
set_next f (suc index) [] x lt is = absurd (omega (arith, lt))
set_next f zero (y ∷ xs) x lt is = ap (λ z. f z ∷ xs) is
set_next f (suc index) (y ∷ xs) x lt is = ap (λ zs. f y ∷ zs) (set_next f index xs x (omega (arith, lt)) is)

pub up_to_next : {A : Type 0} (f : A → A) (index : ℕ) (xs now : List A) (x : A) → now ≡ up_to f index xs → index < length xs
    → x ≡ slice_index_or now index x → set now index (f x) ≡ up_to f (index + 1) xs
up_to_next f index xs now x are lt is =
    ap (λ ys. set ys index (f x)) are ∙ set_next f index xs x lt (subst (λ ys. x ≡ slice_index_or ys index x) are is) ∙ ap (λ (i : ℕ). up_to f i xs) (sym (add-one index))

pub either_false : (a b : Bool) → (a || b) ≡ false → (a ≡ false) × (b ≡ false)
either_false false b is = (refl, is)
either_false true b is = absurd cc

-- the next entry fails a test that all entries fail
next_fails : {A : Type 0} (p : A → Bool) (f : A → A) (index : ℕ) (xs : List A) (x : A) → list_any p xs ≡ false → index < length xs
    → x ≡ slice_index_or (up_to f index xs) index x → p x ≡ false
next_fails p f zero [] x none lt is = absurd (omega (arith, lt))
next_fails p f (suc index) [] x none lt is = absurd (omega (arith, lt))
next_fails p f zero (y ∷ xs) x none lt is = ap p is ∙ (either_false (p y) (list_any p xs) none).0
next_fails p f (suc index) (y ∷ xs) x none lt is = next_fails p f index xs x (either_false (p y) (list_any p xs) none).1 (omega (arith, lt)) is

pub up_to_fails : {A : Type 0} (p : A → Bool) (f : A → A) (index : ℕ) (xs now : List A) (x : A) → list_any p xs ≡ false → now ≡ up_to f index xs
    → index < length xs → x ≡ slice_index_or now index x → p x ≡ false
up_to_fails p f index xs now x none are lt is = next_fails p f index xs x none lt (subst (λ ys. x ≡ slice_index_or ys index x) are is)

pub up_to_all : {A : Type 0} (f : A → A) (index : ℕ) (xs : List A) → length xs ≡ index → up_to f index xs ≡ map f xs
up_to_all f zero [] e = refl
up_to_all f (suc index) (x ∷ xs) e = ap (λ zs. f x ∷ zs) (up_to_all f index xs (omega (arith, e)))
up_to_all f zero (x ∷ xs) e = absurd (omega (arith, e))
up_to_all f (suc index) [] e = absurd (omega (arith, e))
