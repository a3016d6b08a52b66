-- The packets of a message as frames.
use Rattle.std.proofs.Common.{◌≡◌, ℕ, zero, suc, ◌+◌, ◌-◌, ◌*◌, ◌<◌, List, [], ◌∷◌, ◌++◌, length, take, drop, map, min, refl, sym, ap, ◌∙◌, arith, inl, inr, append-nil}
use Rattle.std.proofs.lemmas.List.{take_all, length-drop, take-append-le}
use Rattle.std.proofs.lemmas.Bool.{cases_lt}
use Rattle.vt_can.specs.Assigned.{FILL}
use Rattle.vt_transport.specs.Senders.{numbers_from}

abbrev pub fill : List ℕ
fill = FILL ∷ FILL ∷ FILL ∷ FILL ∷ FILL ∷ FILL ∷ FILL ∷ []

-- fewer than seven bytes, filled up to seven
filled_short : (xs : List ℕ) → length xs < 7 → xs ++ drop (length xs) fill ≡ take 7 (xs ++ fill)
filled_short [] h = refl
filled_short (a ∷ []) h = refl
filled_short (a ∷ b ∷ []) h = refl
filled_short (a ∷ b ∷ c ∷ []) h = refl
filled_short (a ∷ b ∷ c ∷ d ∷ []) h = refl
filled_short (a ∷ b ∷ c ∷ d ∷ e ∷ []) h = refl
filled_short (a ∷ b ∷ c ∷ d ∷ e ∷ f ∷ []) h = refl
filled_short (a ∷ b ∷ c ∷ d ∷ e ∷ f ∷ g ∷ xs) h = absurd (omega arith)

filled : (xs : List ℕ) (n : ℕ) → n ≡ min (length xs) 7 → take n xs ++ drop n fill ≡ take 7 (xs ++ fill)
filled xs n is =
    elim (cases_lt (length xs) 7) [
      | inl short ↦
          (let all : n ≡ length xs = omega arith in
          ap (λ (k : ℕ). take k xs ++ drop k fill) all
          ∙ ap (λ ys. ys ++ drop (length xs) fill) (take_all (length xs) xs (omega arith)) ∙ filled_short xs short)
      | inr long ↦
          (let seven : n ≡ 7 = omega arith in
          ap (λ (k : ℕ). take k xs ++ drop k fill) seven ∙ append-nil (take 7 xs) ∙ sym (take-append-le 7 xs fill long))
    ]

-- the bytes copied into a packet, and its filling
pub filled_packet : (bytes read : List ℕ) (number index n : ℕ) (copied : List ℕ) → read ≡ bytes → index ≡ number
    → n ≡ min (length (take (length read - 7 * (index - 1)) (drop (7 * (index - 1)) read))) 7
    → copied ≡ take n (take (length read - 7 * (index - 1)) (drop (7 * (index - 1)) read))
    → copied ++ drop n fill ≡ take 7 (drop (7 * (number - 1)) bytes ++ fill)
filled_packet bytes read number index n copied same at is copied_is =
    let all : take (length read - 7 * (index - 1)) (drop (7 * (index - 1)) read) ≡ drop (7 * (index - 1)) read =
    take_all _ _ (omega (arith, length-drop (7 * (index - 1)) read)) in
    let rest : drop (7 * (index - 1)) read ≡ drop (7 * (number - 1)) bytes =
    ap (λ (k : ℕ). drop (7 * (k - 1)) read) at ∙ ap (drop (7 * (number - 1))) same in
    ap (λ ys. ys ++ drop n fill) (copied_is ∙ ap (take n) (all ∙ rest))
    ∙ filled (drop (7 * (number - 1)) bytes) n (is ∙ ap (λ ys. min (length ys) 7) (all ∙ rest))

module _ {X : Type 0} where
  pub numbers_from-more : (f : ℕ → X) (next count : ℕ) → map f (numbers_from next (count + 1)) ≡ map f (numbers_from next count) ++ f (next + count) ∷ []
  numbers_from-more f next count = ap (λ (k : ℕ). map f (numbers_from next k)) (one_more count) ∙ more next count
    where
      one_more : (n : ℕ) → n + 1 ≡ suc n
      one_more n = omega arith

      more : (next count : ℕ) → map f (numbers_from next (suc count)) ≡ map f (numbers_from next count) ++ f (next + count) ∷ []
      more next zero = ap (λ (k : ℕ). f k ∷ []) (omega arith)
      more next (suc count) =
          ap (λ ys. f next ∷ ys) (more (suc next) count
          ∙ ap (λ (k : ℕ). map f (numbers_from (suc next) count) ++ f k ∷ []) (omega arith))

  pub length-numbers_from : (f : ℕ → X) (next count : ℕ) → length (map f (numbers_from next count)) ≡ count
  length-numbers_from f next zero = refl
  length-numbers_from f next (suc count) = let rest = length-numbers_from f (suc next) count in omega arith
