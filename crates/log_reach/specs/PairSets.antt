-- Sets of pairs of numbers.
use Rattle.std.specs.Prelude.{ℕ, Bool}
use Rattle.std.specs.BTreeSet.{BTreeSet, contains}
use Rattle.std.specs.Ordering.{nat_cmp, ordering_then}
use Rattle.std.specs.declared.cmp.Ordering.{Ordering}

abbrev pub pair_cmp : ℕ × ℕ → ℕ × ℕ → Ordering
pair_cmp x y = ordering_then (nat_cmp x.0 y.0) (nat_cmp x.1 y.1)

abbrev pub has_pair : BTreeSet (ℕ × ℕ) → ℕ × ℕ → Bool
has_pair pairs pair = contains pair_cmp pairs pair
