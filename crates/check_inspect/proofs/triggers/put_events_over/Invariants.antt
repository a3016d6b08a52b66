use Rattle.std.proofs.Common.{◌≡◌, ◌++◌, [], ◌∷◌, cond, drop, map}
use Rattle.std.specs.Prelude.{filter}
use Rattle.std.specs.List.{flat_map}
use Rattle.vt_stores.specs.Shapes.{shape_of}
use Rattle.vt_verify.specs.declared.listing.Listing.{Listing}
use Rattle.vt_verify.specs.TriggerGraphs.{listed_events}
use Rattle.check_inspect.specs.Costs.{event_finding, event_costs_too_much}
use Rattle.check_inspect.proofs.triggers.put_events_over.Given as goal

abbrev pub invariant-loop-group : goal.invariant-loop-group
invariant-loop-group l =
    l.findings.items ++ flat_map (λ (e : Listing). cond (event_costs_too_much (shape_of l.objects) e) (event_finding e ∷ []) []) (drop l.group l.triggers.events.keys)
    ≡ l.fn.findings.items ++ map event_finding (filter (event_costs_too_much (shape_of l.objects)) (listed_events (shape_of l.objects)))
