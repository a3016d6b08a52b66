-- The columns of a text, from its end.
use Rattle.std.proofs.Common.{◌≡◌, ℕ, suc, ◌+◌, ◌<◌, Bool, cond, eqb, ◌&&◌, List, [], ◌∷◌, ◌++◌, take, get_or, length, refl, ap, ◌∙◌, arith}
use Rattle.std.proofs.lemmas.List.{take_more}
use Rattle.std.proofs.lemmas.Bool.{ne_eqb}
use Rattle.std.proofs.lemmas.Grind.{common_steps}
use Rattle.check_needs.specs.TextFields.{columns}

columns-space : (xs : List ℕ) → columns (xs ++ 32 ∷ []) ≡ columns xs
columns-space [] = refl
columns-space (x ∷ xs) = ap (λ (n : ℕ). cond (eqb n 0 && eqb x 32) 0 (suc n)) (columns-space xs)

last_case : (c : ℕ) → (c ≡ 32 → ⊥) → columns (c ∷ []) ≡ 1
last_case c other = ap (λ (b : Bool). cond b 0 1) (ne_eqb c 32 other)

columns-other : (xs : List ℕ) (c : ℕ) → (c ≡ 32 → ⊥) → columns (xs ++ c ∷ []) ≡ suc (length xs)
columns-other [] c other = last_case c other
columns-other (x ∷ xs) c other =
    ap (λ (n : ℕ). cond (eqb n 0 && eqb x 32) 0 (suc n)) (columns-other xs c other)
    ∙ ap (λ (b : Bool). cond (b && eqb x 32) 0 (suc (suc (length xs)))) (ne_eqb (suc (length xs)) 0 (λ e. absurd (omega (arith, e))))

-- a space at the end takes no column
pub columns_past-space : (text : List ℕ) (end : ℕ) → end < length text → get_or text end 0 ≡ 32 → columns (take (end + 1) text) ≡ columns (take end text)
columns_past-space text end lt is =
    ap columns (take_more text end 0 lt) ∙ ap (λ (c : ℕ). columns (take end text ++ c ∷ [])) is ∙ columns-space (take end text)

-- any other character takes the last column
pub columns_past-other : (text : List ℕ) (end : ℕ) → end < length text → (get_or text end 0 ≡ 32 → ⊥) → columns (take (end + 1) text) ≡ end + 1
columns_past-other text end lt other =
    ap columns (take_more text end 0 lt) ∙ columns-other (take end text) (get_or text end 0) other ∙ grind (arith, common_steps)
