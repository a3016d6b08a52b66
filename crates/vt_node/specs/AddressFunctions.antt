-- Functions from addresses to values.
use Rattle.std.specs.Prelude.{ℕ, ◌==◌, if◌then◌else◌}

-- a function with a new value at one address
abbrev pub with_at : {X : Type 0} → ℕ → X → (ℕ → X) → ℕ → X
with_at address x places other = if other == address then x else places other
