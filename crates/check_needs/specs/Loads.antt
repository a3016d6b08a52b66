-- The steps that the events of an accepted pool can take, and the inclusions of its chains (docs/PROFILE.md, "Needs").
use Rattle.std.specs.Prelude.{◌≡◌, ◌≤◌, ◌<◌, ℕ}
use Rattle.std.specs.List.{AllByRecursion}
use Rattle.vt_stores.specs.Shapes.{Shape, shape_of}
use Rattle.vt_stores.specs.Stores.{Objects}
use Rattle.vt_verify.specs.Budgets.{budget}
use Rattle.check_needs.specs.declared.loads.Dearest.{Dearest}

-- no event of an object takes more steps
abbrev pub IsWithin : Shape → ℕ → ℕ → Type 0
IsWithin shape steps id = (event : ℕ) → event < 27 → budget shape id event ≤ steps

-- an event takes some steps, and no event of any object takes more
pub record IsDearest (objects : Objects) (dearest : Dearest) : Type 0 where
  pub steps : budget (shape_of objects) dearest.id dearest.event ≡ dearest.steps
  pub most : AllByRecursion (λ e. IsWithin (shape_of objects) dearest.steps e.0) objects
