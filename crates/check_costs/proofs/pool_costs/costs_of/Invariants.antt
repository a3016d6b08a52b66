use Rattle.std.proofs.Common.{◌≡◌, ◌++◌, map, drop}
use Rattle.vt_stores.specs.Shapes.{shape_of}
use Rattle.check_costs.specs.Shares.{event_cost}
use Rattle.check_costs.proofs.pool_costs.costs_of.Given as goal

abbrev pub invariant-loop-event : goal.invariant-loop-event
invariant-loop-event l =
    l.costs.items ++ map (event_cost (shape_of l.pool.objects.now)) (drop l.event-index l.events) ≡ map (event_cost (shape_of l.pool.objects.now)) l.events
