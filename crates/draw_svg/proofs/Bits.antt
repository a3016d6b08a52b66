-- The bits of line art, one after the other.
use Rattle.std.proofs.Common.{◌≡◌, ℕ, zero, suc, ◌-◌, ◌<◌, List, ◌∷◌, ◌++◌, sym, ap, ◌∙◌, arith}
use Rattle.std.proofs.lemmas.List.{append_assoc, append-nil}
use Rattle.std.specs.List.{flat_map}
use Rattle.draw_svg.specs.Attributes.{below}

below_less : (n : ℕ) → 0 < n → below n ≡ (n - 1) ∷ below (n - 1)
unfolding below
below_less zero some = absurd (let never : 0 < 0 = some in omega (arith, never))
below_less (suc n) some = let less : suc n - 1 ≡ n = omega arith in ap (λ k. k ∷ below k) (sym less)

-- one more bit is written
pub next_bit : (f : ℕ → List ℕ) (n : ℕ) (out longer total : List ℕ) → 0 < n → longer ≡ out ++ f (n - 1) → out ++ flat_map f (below n) ≡ total
    → longer ++ flat_map f (below (n - 1)) ≡ total
next_bit f n out longer total some made is =
    ap (λ l. l ++ flat_map f (below (n - 1))) made
    ∙ append_assoc out (f (n - 1)) (flat_map f (below (n - 1)))
    ∙ sym (ap (λ bits. out ++ flat_map f bits) (below_less n some))
    ∙ is

pub no_bit : (f : ℕ → List ℕ) (n : ℕ) (out total : List ℕ) → n ≡ 0 → out ++ flat_map f (below n) ≡ total → out ≡ total
unfolding below
no_bit f n out total none is = sym (append-nil out) ∙ ap (λ n. out ++ flat_map f (below n)) (sym none) ∙ is
