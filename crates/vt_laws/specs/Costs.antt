-- The cost of an input as one number of steps (docs/PROFILE.md, "Costs and budgets", "Steps").
use Rattle.std.specs.Prelude.{◌≤◌, ◌+◌, ◌-◌, ℕ, List, sum_by, Option, Some, None}
use Rattle.std.specs.List.{AllByRecursion}
use Rattle.vt_stores.specs.Stores.{ObjectMap}
use Rattle.vt_effects.specs.Soundness.{shape_in}
use Rattle.vt_macros.specs.Machines.{End, Ended, Sticks, run_of, total_budget}
use Rattle.vt_commands.specs.declared.raising.Raised.{Raised}
use Rattle.vt_server.specs.Judgements.{IsJudgedRight}
use Rattle.vt_server.specs.Steps.{JudgedInput}
use Rattle.vt_server.specs.Terminals.{State}
use Rattle.vt_laws.specs.Headline.{Pools, ArePoolsInForce, Run, accepted_after, runs}

-- the steps used out of those at the start of a run; a run that sticks uses more than it has
abbrev pub used : ℕ → End → ℕ
used most (Ended store left) = most - left
used most (Sticks why store) = most + 1

-- the steps of the macros of a run
abbrev pub steps_of : Run → ℕ
steps_of run = used (total_budget (shape_in run.objects) run.raised) (run_of run.objects run.raised)

-- the sum of the budgets that a pool's report prints for events
abbrev pub printed : Option ObjectMap → List Raised → ℕ
printed None raised = 0
printed (Some pool) raised = total_budget (shape_in pool) raised

-- the budgets of a run, by the pool accepted last at its address
abbrev pub budget_of : Pools → Run → ℕ
budget_of pools run = printed (pools run.address) run.raised

-- the steps of all macros of an input; its command takes one more (vt_machine, `SetStates`: `IsDone`)
abbrev pub steps_in : State → JudgedInput → ℕ
steps_in s e = sum_by steps_of (runs s e)

-- the bound on these steps: the budgets of the events of the input's command or action, and of a change of the shown set
abbrev pub input_cost : Pools → State → JudgedInput → ℕ
input_cost pools s e = sum_by (budget_of pools) (runs s e)

-- No run takes more steps than its budgets, so none sticks. All runs of an input take no more than the sum of the budgets. The
-- budgets are those of the pool accepted last at each address, also during the input.
pub record IsWithinCosts (pools : Pools) (s : State) (e : JudgedInput) : Type 0 where
  pub each : AllByRecursion (λ run. steps_of run ≤ budget_of pools run) (runs s e)
  pub whole : steps_in s e ≤ input_cost pools s e

abbrev pub CostsAreWithin : Type 0
CostsAreWithin = (pools : Pools) (s : State) (e : JudgedInput) → ArePoolsInForce pools s → IsJudgedRight s e → IsWithinCosts (accepted_after s e pools) s e
