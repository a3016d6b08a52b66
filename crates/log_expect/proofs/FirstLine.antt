-- The first line of a text, by the place of its newline.
use Rattle.std.proofs.Common.{◌≡◌, ◌∙◌, ℕ, zero, suc, eqb, ◌<◌, Bool, true, false, cond, List, [], ◌∷◌, length, get_or, take, drop, refl, ap, arith}
use Rattle.std.specs.List.{onto_first}
use Rattle.vt_logs.specs.Lines.{lines_of}

-- No byte below a place is a newline.
abbrev pub NoNewlineBelow : List ℕ → ℕ → Type 0
NoNewlineBelow text place = (k : ℕ) → k < place → ¬ (eqb (get_or text k 0) 10 ≡ true)

false_from_not : (b : Bool) → ¬ (b ≡ true) → b ≡ false
false_from_not true refuted = absurd (refuted refl)
false_from_not false refuted = refl

pub lines_cut : (text : List ℕ) (place : ℕ) → place < length text → eqb (get_or text place 0) 10 ≡ true → NoNewlineBelow text place → lines_of text ≡ take place text ∷ lines_of (drop (suc place) text)
lines_cut [] place inside newline before = absurd (omega (arith, inside))
lines_cut (byte ∷ rest) zero inside newline before =
    ap (λ b. cond b ([] ∷ lines_of rest) (onto_first byte (lines_of rest))) newline
lines_cut (byte ∷ rest) (suc place) inside newline before =
    ap (λ b. cond b ([] ∷ lines_of rest) (onto_first byte (lines_of rest))) (false_from_not (eqb byte 10) (before 0 (omega arith)))
    ∙ ap (onto_first byte) (lines_cut rest place (omega (arith, inside)) newline (λ k below. before (suc k) (omega (arith, below))))

pub lines_last : (text : List ℕ) → 0 < length text → NoNewlineBelow text (length text) → lines_of text ≡ text ∷ []
lines_last [] some none = absurd (omega (arith, some))
lines_last (byte ∷ []) some none =
    ap (λ b. cond b ([] ∷ []) ((byte ∷ []) ∷ [])) (false_from_not (eqb byte 10) (none 0 (omega arith)))
lines_last (byte ∷ second ∷ rest) some none =
    ap (λ b. cond b ([] ∷ lines_of (second ∷ rest)) (onto_first byte (lines_of (second ∷ rest)))) (false_from_not (eqb byte 10) (none 0 (omega arith)))
    ∙ ap (onto_first byte) (lines_last (second ∷ rest) (omega arith) (λ k below. none (suc k) (omega (arith, below))))
