use Rattle.std.proofs.Common.{rules, refl, ◌≡◌, ℕ, suc, ◌+◌, ◌-◌, ◌≤◌, Option, Some, None, List, [], ◌++◌, map, sym, ap, subst, ◌∙◌, arith}
use Rattle.vt_kinds.specs.declared.entries.Child.{Child}
use Rattle.vt_kinds.specs.Records.{seen}
use Rattle.vt_shown.specs.ShownElements.{resolves_to}
use Rattle.vt_layout.specs.Drawings.{unmoved}
use Rattle.vt_layout.proofs.EntriesOnPage.{none_within}
use Rattle.draw_picture.specs.Listings.{Lists, each_listed, element_at, first_of, inside_of, listed, listed_for, spot_of}
use Rattle.draw_picture.specs.NearPlaces.{IsNear}
use Rattle.draw_picture.proofs.Listed.{all_listed, element_listed, is_full, level, next_listed, no_element, no_level, not_found, nothing_listed}
use Rattle.draw_picture.proofs.listing.+listing.Goals as goal

pub list_entries-returns-then-levels-eq0-clause-listed : goal.list_entries-returns-then-levels-eq0-clause-listed
list_entries-returns-then-levels-eq0-clause-listed g t c =
    no_level c.args.levels c.args.sizes (g.S.Store.contents c.args.store.now) c.args.entries.now c.args.around c.args.list.now.items c.if-levels-eq0.true c.requires.short

pub list_entries-loop-entry-init : goal.list_entries-loop-entry-init
list_entries-loop-entry-init g t c = (refl, c.requires.short)

pub list_entries-list_entry-requires : goal.list_entries-list_entry-requires
list_entries-list_entry-requires g t c κs within =
    let measure = c.decreases in
    let some = c.if-levels-eq0.false in
    let more : c.args.levels ≡ (c.args.levels - 1) + 1 = omega (arith, some) in (
      omega (arith, measure, some),
      (within, (c.spot_of.ensures.near (c.args.levels - 1) (subst (λ n. IsNear n c.args.around) more c.requires.near), c.loop-entry.invariant.1)),
    )

pub list_entries-loop-entry-preserved : goal.list_entries-loop-entry-preserved
list_entries-loop-entry-preserved g t c =
    let store = g.S.Store.contents c.args.store.now in
    let inside = listed (c.args.levels - 1) c.args.sizes store in (
      next_listed inside c.args.sizes store c.args.entries.now c.args.around c.loop-entry.entry-index c.entry-item.result _ c.args.list.now.items c.loop-entry.list.items
          c.list_entry.new.list.items c.loop-entry-test.true (sym c.entry-item.is) c.loop-entry.invariant.0
          (subst (λ s. Lists (listed_for inside c.args.sizes store (resolves_to store c.entry-item.result.id) s) c.loop-entry.list.items c.list_entry.new.list.items) c.spot_of.ensures.is
          c.in_ok-list_entry.ensures.listed),
      c.in_ok-list_entry.ensures.short,
    )

pub list_entries-returns-clause-listed : goal.list_entries-returns-clause-listed
list_entries-returns-clause-listed g t c =
    let store = g.S.Store.contents c.args.store.now in
    let some = c.if-levels-eq0.false in
    let more : c.args.levels ≡ suc (c.args.levels - 1) = omega (arith, some) in
    let all = all_listed (listed (c.args.levels - 1) c.args.sizes store) c.args.sizes store c.args.entries.now c.args.around c.loop-entry.entry-index c.args.list.now.items
    c.loop-entry.list.items (omega (arith, c.loop-entry-test.false)) c.loop-entry.invariant.1 c.loop-entry.invariant.0 in
    all ∙ ap (λ l. first_of (c.args.list.now.items ++ l)) (sym (level c.args.levels (c.args.levels - 1) c.args.sizes store c.args.entries.now c.args.around _ more))

pub list_entry-returns-then-index-ge-MOST-clause-listed : goal.list_entry-returns-then-index-ge-MOST-clause-listed
list_entry-returns-then-index-ge-MOST-clause-listed g t c =
    let store = g.S.Store.contents c.args.store.now in
    let long = c.if-index-ge-MOST.true in
    let count = c.len-index.ensures in
    let inside = listed c.args.levels c.args.sizes store in
    is_full inside c.args.sizes store (listed_for inside c.args.sizes store (resolves_to store c.args.id) c.args.spot) c.args.list.now.items (omega (arith, long, count)) c.requires.short

pub list_entry-returns-in_default-clause-listed : goal.list_entry-returns-in_default-clause-listed
list_entry-returns-in_default-clause-listed g t c =
    let store = g.S.Store.contents c.args.store.now in
    let found = c.in-Some.ensures.some in
    no_element (listed c.args.levels c.args.sizes store) c.args.sizes store (resolves_to store c.args.id) c.in-Some.found.0 (seen c.in-Some.found.1.now) c.args.spot c.args.list.now.items
    found.0 found.1 (sym c.is_element.ensures ∙ c.if-is_element.false) c.requires.short

pub list_entry-returns-in_default-2-clause-listed : goal.list_entry-returns-in_default-2-clause-listed
list_entry-returns-in_default-2-clause-listed g t c =
    let store = g.S.Store.contents c.args.store.now in
    not_found (listed c.args.levels c.args.sizes store) c.args.sizes store (resolves_to store c.args.id) c.args.spot c.args.list.now.items
    (let none : resolves_to store c.args.id ≡ None = search rules in none) c.requires.short

pub list_item-returns-in-None-clause-listed : goal.list_item-returns-in-None-clause-listed
list_item-returns-in-None-clause-listed g t c =
    nothing_listed c.args.levels c.args.sizes (g.S.Store.contents c.args.store.now) _ c.args.around c.args.list.now.items (ap (map unmoved) (sym c.in-None.ensures)) c.requires.short

pub list_within-returns-in_default : goal.list_within-returns-in_default
list_within-returns-in_default g t c =
    let store = g.S.Store.contents c.args.store.now in
    let d = c.in_default in
    record {
      listed =
          nothing_listed c.args.levels c.args.sizes store _ c.args.around c.args.list.now.items
          (none_within store c.args.object.now d.not-WorkingSet d.not-DataMask d.not-AlarmMask d.not-Container d.not-Key d.not-Button d.not-InputList) c.requires.short;
      short = c.requires.short;
    }
