use Rattle.std.proofs.Common.{◌≡◌, ◌<◌, ℕ, length}
use Rattle.std.specs.Prelude.{slice_index}
use Rattle.vt_rank.specs.Costs.{group_cost}
use Rattle.vt_verify.proofs.budgets.Budgets.of_triggers.Given as goal

abbrev pub invariant-loop-group : goal.invariant-loop-group
invariant-loop-group l =
    (length l.steps.items ≡ l.group)
    × ((group : ℕ) → group < l.group → slice_index l.steps.items group ≡ group_cost l.graph group)
