-- `ord_max` is the maximum of two numbers.
use Rattle.std.proofs.Common.{◌≡◌, ℕ, max, cond, ap, subst, ◌∙◌, arith}
use Rattle.std.specs.Ordering.{nat_cmp, is_lt, ord_max}
use Rattle.std.specs.declared.cmp.Ordering.{Ordering}
use Rattle.std.specs.declared.cmp.Ordering.TheVariants.{Equal}
use Rattle.vt_stores.proofs.SortedEntries.{Three, below, same, above, three, less, equal, greater}

max_by : (a b : ℕ) → Three b a → ord_max nat_cmp a b ≡ max a b
max_by a b (below lt) = ap (λ (o : Ordering). cond (is_lt o) a b) (less b a lt) ∙ omega arith
max_by a b (same e) = ap (λ (o : Ordering). cond (is_lt o) a b) (subst (λ (k : ℕ). nat_cmp b k ≡ Equal) e (equal b)) ∙ omega (arith, e)
max_by a b (above lt) = ap (λ (o : Ordering). cond (is_lt o) a b) (greater b a lt) ∙ omega arith

pub max_is : (a b : ℕ) → ord_max nat_cmp a b ≡ max a b
max_is a b = max_by a b (three b a)
