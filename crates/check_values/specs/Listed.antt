-- The warnings about the entries of a list, one after the other.
use Rattle.std.specs.Prelude.{ℕ, suc, List, [], ◌∷◌, ◌++◌}
use Rattle.check_values.specs.declared.warning.ValueWarning.{ValueWarning}

-- those about each entry and its index, which are counted from a number on
abbrev pub each_from : {A : Type 0} → (ℕ → A → List ValueWarning) → ℕ → List A → List ValueWarning
each_from f index [] = []
each_from f index (x ∷ xs) = f index x ++ each_from f (suc index) xs
