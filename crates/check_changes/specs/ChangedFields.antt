-- The fields that differ, as the code finds them.
use Rattle.std.specs.Prelude.{Bool, not, List, filter}
use denote.Ref.{Bor}
use Rattle.std.specs.List.{zip}
use Rattle.check_changes.specs.Names.{Name}

-- a name with its old and its new value
abbrev pub Row : Type 0 → Type 0
Row V = (Bor Name × V) × V

-- the rows whose two values are not the same
abbrev pub rows_unlike : {V : Type 0} → (V → V → Bool) → List (Bor Name) → List V → List V → List (Row V)
rows_unlike same names old new = filter (λ row. not (same row.0.1 row.1)) (zip (zip names old) new)
