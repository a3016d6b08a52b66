-- The macros of a pool in the order of their triggers (docs/PROFILE.md, "Triggers and circles").
use Rattle.std.specs.Prelude.{◌≡◌, ℕ, List, ◌∷◌, ◌++◌, Contains, IsPermutation}
use Rattle.std.specs.List.{flat_map}
use Rattle.vt_stores.specs.Shapes.{Shape}
use Rattle.vt_verify.specs.Triggers.{run_by_name, triggered}

-- the macros with IDs up to 255, by rising ID
abbrev pub named_macros : Shape → List ℕ
named_macros shape = flat_map (λ e. run_by_name e.0 e.1) shape

-- Each macro with an ID of at most 255 is in the order once, and triggers neither itself nor a later one.
pub record IsByRank (shape : Shape) (order : List ℕ) : Type 0 where
  pub all : IsPermutation (named_macros shape) order
  pub before : (front back : List ℕ) (m n : ℕ) → order ≡ front ++ m ∷ back → Contains (triggered shape m) n → Contains (m ∷ back) n → ⊥
