use Rattle.std.proofs.Common.{◌≡◌, ◌≤◌, ◌<◌, ℕ}
use Rattle.vt_stores.specs.Shapes.{shape_of}
use Rattle.vt_verify.specs.Budgets.{budget}
use Rattle.check_needs.proofs.loads.dearest_of.Given as goal

abbrev pub invariant-loop-event : goal.invariant-loop-event
invariant-loop-event l =
    (budget (shape_of l.accepted) l.dearest.id l.dearest.event ≡ l.dearest.steps)
    × ((k : ℕ) → k < l.event → budget (shape_of l.accepted) l.id k ≤ l.dearest.steps)
