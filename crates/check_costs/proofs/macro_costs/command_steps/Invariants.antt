use Rattle.std.proofs.Common.{◌≡◌, ◌≤◌, ◌+◌, map}
use Rattle.std.specs.Prelude.{sum_by}
use Rattle.vt_stores.specs.Shapes.{shape_of}
use Rattle.vt_verify.specs.Triggers.{listing_of}
use Rattle.check_costs.specs.declared.share.TheConstants.{MOST_STEPS}
use Rattle.check_costs.specs.Shares.{counted, event_cost, hide_by, steps_of}
use Rattle.check_costs.proofs.EventSteps.{raised_steps}
use Rattle.check_costs.proofs.macro_costs.command_steps.Given as goal

abbrev pub invariant-loop-raised : goal.invariant-loop-raised
invariant-loop-raised l =
    (goal.iterator-loop-raised).can_next l.raised-iterator
    × (goal.iterator-loop-raised).is_finite l.raised-iterator
    × (l.steps ≤ MOST_STEPS)
    × (counted (l.steps + sum_by (λ e. (event_cost (shape_of l.pool.objects.now) e).steps) (map listing_of l.raised-iterator))
    ≡ counted (1 + steps_of (hide_by l.command l.hide) + raised_steps (shape_of l.pool.objects.now) l.command))
