-- The first marks have the first IDs.
use Rattle.std.proofs.Common.{◌≡◌, ℕ, zero, suc, ◌+◌, ◌-◌, List, [], ◌∷◌, ◌++◌, take, length, refl, sym, ap, ap₂, ◌∙◌, arith}
use Rattle.std.proofs.lemmas.List.{length-append}
use Rattle.draw_picture.specs.Marks.{Marks, Nothing, Mark, cut, count, ids}

-- the first of two lists, one after the other: those of the first list, and then as many of the second as are still wanted
pub take_append : {A : Type 0} (n : ℕ) (xs ys : List A) → take n (xs ++ ys) ≡ take n xs ++ take (n - length (take n xs)) ys
take_append zero xs ys = refl
take_append (suc n) [] ys = let all : suc n ≡ suc n - 0 = omega arith in ap (λ k. take k ys) all
take_append (suc n) (x ∷ xs) ys =
    let left : n - length (take n xs) ≡ suc n - suc (length (take n xs)) = omega arith in
    ap (λ l. x ∷ l) (take_append n xs ys ∙ ap (λ k. take n xs ++ take k ys) left)

-- there are as many IDs as marks
pub ids_counted : (m : Marks) → count m ≡ length (ids m)
ids_counted Nothing = refl
ids_counted (Mark entry inside later) =
    ap suc (ap₂ (λ a b. a + b) (ids_counted inside) (ids_counted later) ∙ sym (length-append (ids inside) (ids later)))

take_none : {A : Type 0} (n : ℕ) → [] ≡ take {A = A} n []
take_none zero = refl
take_none (suc n) = refl

pub first_ids : (n : ℕ) (m : Marks) → ids (cut n m) ≡ take n (ids m)
unfolding cut
first_ids n Nothing = take_none n
first_ids zero (Mark entry inside later) = refl
first_ids (suc n) (Mark entry inside later) =
    let wanted : n - count (cut n inside) ≡ n - length (take n (ids inside)) = ap (λ k. n - k) (ids_counted (cut n inside) ∙ ap length (first_ids n inside)) in
    ap (λ l. entry.id ∷ l) (
    ap₂ (λ a b. a ++ b) (first_ids n inside) (first_ids (n - count (cut n inside)) later ∙ ap (λ k. take k (ids later)) wanted)
    ∙ sym (take_append n (ids inside) (ids later))
    )
