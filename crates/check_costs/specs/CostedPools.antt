-- A pool with the costs of its macros.
use Rattle.std.specs.Prelude.{◌≡◌, ℕ, List, slice_index}
use Rattle.vt_stores.specs.Shapes.{Shape, shape_of}
use Rattle.vt_verify.specs.Budgets.{cost}
use Rattle.vt_verify.specs.TriggerGraphs.{IsTriggerGraph}
use Rattle.check_costs.specs.declared.costed_pool.CostedPool.{CostedPool}
use Rattle.check_costs.specs.Shares.{counted}

-- the cost of each macro, counted
abbrev pub AreMacroSteps : Shape → List ℕ → Type 0
AreMacroSteps shape steps = (id : ℕ) → slice_index steps id ≡ counted (cost shape id)

-- The triggers and the steps are those of the objects.
pub record IsCosted (pool : CostedPool) : Type 0 where
  pub triggers : IsTriggerGraph (shape_of pool.objects.now) pool.triggers.events.keys pool.triggers.graph
  pub steps : AreMacroSteps (shape_of pool.objects.now) pool.steps
