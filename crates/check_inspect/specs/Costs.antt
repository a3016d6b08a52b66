-- The macros and the events that can cost too many steps (docs/PROFILE.md, "Costs and budgets").
use Rattle.std.specs.Prelude.{◌≡◌, ℕ, min, slice_index, Bool, nat_lt, not, ◌&&◌, List, ◌++◌, filter, map, Some, None}
use Rattle.std.specs.List.{list_any}
use Rattle.vt_stores.specs.Shapes.{Shape}
use Rattle.vt_chains.specs.Limits.{terminal}
use Rattle.vt_verify.specs.declared.listing.Listing.{Listing}
use Rattle.vt_verify.specs.Budgets.{cost, budget}
use Rattle.vt_verify.specs.Orders.{named_macros}
use Rattle.vt_verify.specs.TriggerGraphs.{listed_events}
use Rattle.vt_verify.specs.Triggers.{listed}
use Rattle.check_inspect.specs.declared.finding.Finding.{Finding}
use Rattle.check_inspect.specs.declared.finding.Finding.TheVariants as findings

abbrev pub costs_too_much : Shape → ℕ → Bool
costs_too_much shape id = nat_lt terminal.steps (cost shape id)

-- the event can cost too many steps, though no macro listed at it does
abbrev pub event_costs_too_much : Shape → Listing → Bool
event_costs_too_much shape e = nat_lt terminal.steps (budget shape e.id e.event) && not (list_any (costs_too_much shape) (listed shape e))

abbrev pub macro_finding : ℕ → Finding
macro_finding id = findings.OverBudget id None

abbrev pub event_finding : Listing → Finding
event_finding e = findings.OverBudget e.id (Some e.event)

-- the macros that can cost too many steps, by rising ID, and then the events, by rising ID and number
abbrev pub over_findings : Shape → List Finding
over_findings shape =
    map macro_finding (filter (costs_too_much shape) (named_macros shape))
    ++ map event_finding (filter (event_costs_too_much shape) (listed_events shape))

-- the cost of each macro, cut at a limit
abbrev pub AreMacroCosts : Shape → ℕ → List ℕ → Type 0
AreMacroCosts shape limit costs = (id : ℕ) → slice_index costs id ≡ min (cost shape id) limit
