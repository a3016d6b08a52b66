use Rattle.std.proofs.Common.{◌≡◌, ◌≤◌, ◌-◌, ◌++◌, ℕ, drop, false}
use Rattle.std.specs.List.{flat_map}
use Rattle.vt_kinds.specs.Records.{seen}
use Rattle.vt_rank.specs.Graphs.{lists}
use Rattle.vt_stores.specs.Shapes.{fixed}
use Rattle.vt_verify.specs.Triggers.{listing, listed_in}
use Rattle.vt_verify.specs.TriggerGraphs.{has, if_any, non_empty, event_numbers, events_in, groups_in}
use Rattle.vt_verify.proofs.listing.put_listings.Given as goal

abbrev pub invariant-loop-event : goal.invariant-loop-event
invariant-loop-event l =
    (l.event ≤ 27)
    × ((event : ℕ) → l.event ≤ event → has l.events.keys (listing l.id event) ≡ false)
    × (l.events.keys ++ flat_map (λ event. if_any (listing l.id event) (listed_in event l.id (fixed (seen l.object)))) (drop l.event event_numbers)
    ≡ l.fn.events.keys ++ events_in l.id (fixed (seen l.object)))
    × (lists l.groups ++ flat_map (λ event. non_empty (listed_in event l.id (fixed (seen l.object)))) (drop l.event event_numbers)
    ≡ lists l.fn.groups ++ groups_in l.id (fixed (seen l.object)))

abbrev pub decreases-loop-event : goal.decreases-loop-event
decreases-loop-event l = 27 - l.event
