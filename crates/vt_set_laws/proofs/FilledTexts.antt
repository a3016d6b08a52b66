-- The stored text equals a text filled up with spaces exactly if the machine's test passes.
use Rattle.std.proofs.Common.{◌≡◌, ◌≤◌, ◌-◌, ◌==◌, ◌&&◌, ℕ, suc, Bool, List, [], ◌∷◌, ◌++◌, length, replicate, refl, sym, ap₂, subst, arith}
use Rattle.std.proofs.lemmas.Bool.{and_parts, and_from, eqb-true, eq-eqb}
use Rattle.std.specs.Prelude.{Decides}
use Rattle.std.specs.List.{list_all}
use Rattle.vt_kinds.specs.Texts.{filled_up}
use Rattle.vt_machine.specs.OperatorEntries.{is_filled}

-- two lists are equal exactly if their first elements and their rests are
both : (x y : ℕ) (xs ys : List ℕ) (b : Bool) → Decides b (xs ≡ ys) → Decides (y == x && b) (x ∷ xs ≡ y ∷ ys)
both x y xs ys b rest = (
  (λ e. let parts = and_parts (y == x) b e in ap₂ (λ (z : ℕ) (zs : List ℕ). z ∷ zs) (sym (eqb-true y x parts.0)) (rest.0 parts.1)),
  (λ e. and_from (y == x) b (eq-eqb y x (sym (heads e))) (rest.1 (tails e))),
)
  where
    heads : x ∷ xs ≡ y ∷ ys → x ≡ y
    heads e = cc

    tails : x ∷ xs ≡ y ∷ ys → xs ≡ ys
    tails e = cc

blanks : (kept : List ℕ) → Decides (list_all (λ byte. byte == 32) kept) (replicate (length kept) 32 ≡ kept)
blanks [] = ((λ e. refl), (λ e. refl))
blanks (x ∷ kept) = both 32 x (replicate (length kept) 32) kept (list_all (λ byte. byte == 32) kept) (blanks kept)

all_left : (n : ℕ) → n - 0 ≡ n
all_left n = omega arith

one_less : (n m : ℕ) → suc n - suc m ≡ n - m
one_less n m = omega arith

pub filled_decides : (text kept : List ℕ) → length text ≤ length kept → Decides (is_filled text kept) (filled_up (length kept) text ≡ kept)
filled_decides [] kept le =
    subst (λ (size : ℕ). Decides (list_all (λ byte. byte == 32) kept) (replicate size 32 ≡ kept)) (sym (all_left (length kept))) (blanks kept)
filled_decides (x ∷ text) [] le = absurd (omega (arith, le))
filled_decides (x ∷ text) (y ∷ kept) le =
    subst (λ (size : ℕ). Decides (y == x && is_filled text kept) (x ∷ (text ++ replicate size 32) ≡ y ∷ kept))
    (sym (one_less (length kept) (length text)))
    (both x y (filled_up (length kept) text) kept (is_filled text kept) (filled_decides text kept (omega (arith, le))))
