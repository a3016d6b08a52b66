-- Bytes in two parts.
use Rattle.std.proofs.Common.{◌≡◌, ℕ, ◌-◌, List, [], ◌∷◌, ◌++◌, length, drop, refl, ap, ◌∙◌, arith}
use Rattle.std.proofs.lemmas.List.{length-append}

drop_length : (front rest : List ℕ) → drop (length front) (front ++ rest) ≡ rest
drop_length [] rest = refl
drop_length (b ∷ front) rest = drop_length front rest

-- what is left after as many bytes as are missing in the rest
pub drop_front : (bytes front rest : List ℕ) → bytes ≡ front ++ rest → drop (length bytes - length rest) bytes ≡ rest
drop_front bytes front rest parts =
    let all = ap length parts in
    let sum = length-append front rest in
    let size : length bytes - length rest ≡ length front = omega arith in
    ap (λ (n : ℕ). drop n bytes) size ∙ ap (drop (length front)) parts ∙ drop_length front rest
