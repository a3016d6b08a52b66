use Rattle.std.proofs.Common.{ℕ, List, ◌++◌, ◌+◌, ◌<◌, ◌≤◌, drop, sym, ap, ◌∙◌, arith}
use Rattle.std.specs.List.{flat_map}
use Rattle.vt_kinds.specs.Records.{seen}
use Rattle.vt_rank.specs.Graphs.{lists}
use Rattle.vt_verify.specs.declared.listing.Listing.{Listing}
use Rattle.vt_stores.specs.Shapes.{fixed}
use Rattle.vt_verify.specs.Triggers.{listing, listed_in}
use Rattle.vt_verify.specs.TriggerGraphs.{has, if_any, non_empty, event_numbers, events_in, groups_in}
use Rattle.vt_verify.proofs.lemmas.graphs.EventGroups.{moved, next_event, none_between, still_new}
use Rattle.vt_verify.proofs.listing.put_listings.Goals as goal

pub loop-event-init : goal.loop-event-init
unfolding events_in groups_in
loop-event-init c =
    let f = fixed (seen c.args.object.now) in
    let first = c.next_listed-event in
    let events = λ (event : ℕ). if_any (listing c.args.id event) (listed_in event c.args.id f) in
    let groups = λ (event : ℕ). non_empty (listed_in event c.args.id f) in
    let low : 0 ≤ first.result = omega arith in (
      first.ensures.within.1,
      λ event le. c.requires event,
      ap (λ (es : List Listing). c.args.events.now.keys ++ es)
          (sym (none_between events 0 first.result low first.ensures.within.1 (λ event le lt. ap (if_any (listing c.args.id event)) (first.ensures.none_before event le lt)))),
      ap (λ (gs : List (List ℕ)). lists c.args.groups.now ++ gs)
          (sym (none_between groups 0 first.result low first.ensures.within.1 (λ event le lt. ap non_empty (first.ensures.none_before event le lt)))),
    )

pub loop-event-preserved : goal.loop-event-preserved
loop-event-preserved c =
    let n = c.loop-event.event in
    let high : n < 27 = omega (arith, c.loop-event-test.true) in
    let f = fixed (seen c.args.object.now) in
    let next = c.next_listed-event-in-loop-event in
    let events = λ (event : ℕ). if_any (listing c.args.id event) (listed_in event c.args.id f) in
    let groups = λ (event : ℕ). non_empty (listed_in event c.args.id f) in
    let left = drop (n + 1) event_numbers in (
      next.ensures.within.1,
      λ event le. ap (λ (keys : List Listing). has keys (listing c.args.id event)) c.in_ok-put_listing.ensures.events
          ∙ still_new c.args.id n event c.loop-event.events.keys (listed_in n c.args.id f) (omega (arith, le, next.ensures.within.0))
          (c.loop-event.invariant.1 event (omega (arith, le, next.ensures.within.0))),
      ap (λ (es : List Listing). c.put_listing.new.events.keys ++ es)
          (sym (none_between events (n + 1) next.result next.ensures.within.0 next.ensures.within.1
          (λ event le lt. ap (if_any (listing c.args.id event)) (next.ensures.none_before event le lt))))
          ∙ ap (λ (keys : List Listing). keys ++ flat_map events left) c.in_ok-put_listing.ensures.events
          ∙ moved c.loop-event.events.keys (events n) (flat_map events left) _
          (ap (λ (ns : List ℕ). c.loop-event.events.keys ++ flat_map events ns) (sym (next_event n high)) ∙ c.loop-event.invariant.2),
      ap (λ (gs : List (List ℕ)). lists c.put_listing.new.groups ++ gs)
          (sym (none_between groups (n + 1) next.result next.ensures.within.0 next.ensures.within.1
          (λ event le lt. ap non_empty (next.ensures.none_before event le lt))))
          ∙ ap (λ (gs : List (List ℕ)). gs ++ flat_map groups left) c.in_ok-put_listing.ensures.groups
          ∙ moved (lists c.loop-event.groups) (groups n) (flat_map groups left) _
          (ap (λ (ns : List ℕ). lists c.loop-event.groups ++ flat_map groups ns) (sym (next_event n high)) ∙ c.loop-event.invariant.3),
    )
