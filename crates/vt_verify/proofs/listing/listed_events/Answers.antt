use Rattle.std.proofs.Common.{ℕ, List, ◌++◌, ◌≤◌, length, map, sym, ap, ap₂, refl, subst, ◌∙◌, arith}
use Rattle.std.proofs.lemmas.List.{take_all}
use Rattle.std.specs.List.{flat_map}
use Rattle.vt_stores.specs.Stores.{seen_entry, Objects, IsRising}
use Rattle.vt_verify.specs.declared.listing.Listing.{Listing}
use Rattle.vt_stores.specs.Shapes.{shape_of}
use Rattle.vt_verify.specs.Triggers.{listing}
use Rattle.vt_verify.specs.TriggerGraphs.{has}
use Rattle.vt_verify.proofs.lemmas.graphs.EventGroups.{events_of, groups_of_events, not_yet, one_more, events_listed, groups_listed}
use Rattle.vt_verify.proofs.listing.listed_events.Goals as goal

pub put_listings-requires : goal.put_listings-requires
put_listings-requires c event =
    ap (λ (keys : List Listing). has keys (listing c.loop-id-item.result.0 event)) c.loop-id.invariant.1
    ∙ not_yet c.entries-id-items.result.now c.loop-id.id-index c.loop-id-item.result event c.loop-id-test.true c.loop-id-item.is
    (subst IsRising (sym c.entries-id-items.ensures.all) c.entries-id-items.ensures.stored.rising)

pub loop-id-preserved : goal.loop-id-preserved
loop-id-preserved c =
    let items = c.entries-id-items.result.now in
    let item = c.loop-id-item.result in (
      c.loop-id.invariant.0,
      c.in_ok-put_listings.ensures.events
          ∙ ap₂ (λ (made more : List Listing). made ++ more) c.loop-id.invariant.1
          refl
          ∙ sym (one_more events_of items c.loop-id.id-index item c.loop-id-test.true c.loop-id-item.is),
      c.in_ok-put_listings.ensures.groups
          ∙ ap₂ (λ (made more : List (List ℕ)). made ++ more) c.loop-id.invariant.2
          refl
          ∙ sym (one_more groups_of_events items c.loop-id.id-index item c.loop-id-test.true c.loop-id-item.is),
    )

pub returns-clause-events : goal.returns-clause-events
returns-clause-events c =
    let items = c.entries-id-items.result.now in
    let end : length items ≤ c.loop-id.id-index = omega (arith, c.loop-id-test.false) in
    c.loop-id.invariant.1
    ∙ ap (λ (objects : Objects). flat_map events_of (shape_of objects)) (ap (map seen_entry) (take_all c.loop-id.id-index items end) ∙ c.entries-id-items.ensures.all)
    ∙ events_listed c.args.objects.now c.entries-id-items.ensures.stored.rising

pub returns-clause-groups : goal.returns-clause-groups
returns-clause-groups c =
    let items = c.entries-id-items.result.now in
    let end : length items ≤ c.loop-id.id-index = omega (arith, c.loop-id-test.false) in
    c.loop-id.invariant.2
    ∙ ap (λ (objects : Objects). flat_map groups_of_events (shape_of objects)) (ap (map seen_entry) (take_all c.loop-id.id-index items end) ∙ c.entries-id-items.ensures.all)
    ∙ groups_listed c.args.objects.now c.entries-id-items.ensures.stored.rising
