-- The objects that were drawn.
use Rattle.std.specs.Prelude.{ℕ, Bool}
use Rattle.std.specs.BTreeSet.{contains}
use Rattle.std.specs.Ordering.{nat_cmp}
use Rattle.log_reach.specs.declared.drawn.Drawn.{Drawn}

abbrev pub was_drawn : Drawn → ℕ → Bool
was_drawn drawn id = contains nat_cmp drawn.ids id
