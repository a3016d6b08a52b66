-- A pass over a list, whose warnings are put into another.
use Rattle.std.proofs.Common.{◌≡◌, ℕ, suc, ◌+◌, ◌<◌, List, ◌++◌, drop, length, get_or, sym, ap, ◌∙◌, append_assoc, arith}
use Rattle.std.proofs.Math.Seq.{drop-cons}
use Rattle.check_values.specs.declared.warning.ValueWarning.{ValueWarning}
use Rattle.check_values.specs.Listed.{each_from}

-- the warnings about one more entry are put
pub put_each : {A : Type 0} (f : ℕ → A → List ValueWarning) (xs : List A) (all put more : List ValueWarning) (i : ℕ) (x : A)
    → i < length xs → x ≡ get_or xs i x
    → all ≡ put ++ each_from f i (drop i xs)
    → more ≡ put ++ f i x
    → all ≡ more ++ each_from f (i + 1) (drop (i + 1) xs)
put_each {A} f xs all put more i x lt is left new =
    let rest = each_from f (suc i) (drop (suc i) xs) in
    let one : suc i ≡ i + 1 = omega arith in
    left
    ∙ ap (λ (ys : List A). put ++ each_from f i ys) (drop-cons xs i x lt)
    ∙ ap (λ (y : A). put ++ (f i y ++ rest)) (sym is)
    ∙ sym (append_assoc put (f i x) rest)
    ∙ ap (λ (ws : List ValueWarning). ws ++ rest) (sym new)
    ∙ ap (λ (k : ℕ). more ++ each_from f k (drop k xs)) one
