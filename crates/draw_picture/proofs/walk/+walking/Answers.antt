use Rattle.std.proofs.Common.{rules, ◌≡◌, ℕ, suc, ◌-◌, Option, Some, None, List, [], ◌∷◌, ◌++◌, map, sym, ap, subst, ◌∙◌, arith}
use Rattle.vt_kinds.specs.declared.entries.Child.{Child}
use Rattle.vt_kinds.specs.Records.{seen}
use Rattle.vt_shown.specs.ShownElements.{resolves_to}
use Rattle.vt_layout.specs.Drawings.{unmoved}
use Rattle.vt_layout.proofs.EntriesOnPage.{none_within}
use Rattle.draw_picture.specs.declared.walk.Tag.TheVariants.{Open}
use Rattle.draw_picture.specs.declared.walk.Walk.{Walk}
use Rattle.draw_picture.specs.Marks.{Marks, Nothing, led_to, marked, marks}
use Rattle.draw_picture.specs.Tags.{Walks}
use Rattle.draw_picture.proofs.Walked.{no_depth, deeper, no_entries, walked_nothing, full, walk_begins, next_walked, walk_ends, element_mark, no_element, around}
use Rattle.draw_picture.proofs.walk.+walking.Goals as goal

pub walk_entries-returns-then-depth-eq0 : goal.walk_entries-returns-then-depth-eq0
walk_entries-returns-then-depth-eq0 g t c =
    let store = g.S.Store.contents c.args.store.now in
    walked_nothing store _ c.args.walk.now (no_depth c.args.depth store c.args.entries.now c.if-depth-eq0.true)

pub walk_entries-loop-entry-init : goal.walk_entries-loop-entry-init
walk_entries-loop-entry-init g t c =
    let store = g.S.Store.contents c.args.store.now in
    let some = c.if-depth-eq0.false in
    walk_begins store _ _ c.args.walk.now
    (deeper c.args.depth (c.args.depth - 1) store c.args.entries.now (let less : c.args.depth ≡ suc (c.args.depth - 1) = omega (arith, some) in less))

pub walk_entries-loop-entry-preserved : goal.walk_entries-loop-entry-preserved
walk_entries-loop-entry-preserved g t c =
    let store = g.S.Store.contents c.args.store.now in
    next_walked store (marks (c.args.depth - 1) store) c.args.entries.now c.loop-entry.entry-index c.entry-item.result _
    (marks c.args.depth store c.args.entries.now) c.args.walk.now c.loop-entry.walk c.walk_entry.new.walk
    c.loop-entry-test.true (sym c.entry-item.is) c.loop-entry.invariant c.in_ok-walk_entry.ensures

pub walk_entries-returns : goal.walk_entries-returns
walk_entries-returns g t c =
    let store = g.S.Store.contents c.args.store.now in
    walk_ends store (marks (c.args.depth - 1) store) c.args.entries.now c.loop-entry.entry-index (marks c.args.depth store c.args.entries.now) c.args.walk.now c.loop-entry.walk
    (omega (arith, c.loop-entry-test.false)) c.loop-entry.invariant

pub walk_entry-returns-then-walk-eq0 : goal.walk_entry-returns-then-walk-eq0
walk_entry-returns-then-walk-eq0 g t c = full (g.S.Store.contents c.args.store.now) _ c.args.walk.now c.if-walk-eq0.true

pub walk_entry-returns-in_default : goal.walk_entry-returns-in_default
walk_entry-returns-in_default g t c =
    let store = g.S.Store.contents c.args.store.now in
    walked_nothing store _ c.args.walk.now
    (ap (λ (found : Option ℕ). marked store (marks c.args.depth store) c.args.entry.now found Nothing) (let none : resolves_to store c.args.entry.now.id ≡ None = search rules in none))

pub walk_entry-returns-then-not-is_element : goal.walk_entry-returns-then-not-is_element
walk_entry-returns-then-not-is_element g t c =
    let store = g.S.Store.contents c.args.store.now in
    let found = c.in-Some.ensures.some in
    walked_nothing store _ c.args.walk.now
    (no_element store (marks c.args.depth store) c.args.entry.now (resolves_to store c.args.entry.now.id) c.in-Some.found.0 (Some (seen c.in-Some.found.1.now)) found.0 found.1
    (sym c.is_element.ensures ∙ c.if-not-is_element.true))

pub walk_entry-returns : goal.walk_entry-returns
walk_entry-returns g t c =
    let store = g.S.Store.contents c.args.store.now in
    let found = c.in-Some.ensures.some in
    let object = seen c.in-Some.found.1.now in
    let mark : Child = led_to c.args.entry.now c.in-Some.found.0 in
    let is = element_mark store (marks c.args.depth store) c.args.entry.now (resolves_to store c.args.entry.now.id) c.in-Some.found.0 (Some object) found.0 found.1
    (sym c.is_element.ensures ∙ c.if-not-is_element.false) in
    let after : Walk = record { tags = c.push-2.new.self; left = c.walk_within.new.walk.left } in
    subst (λ (m : Marks). Walks m c.args.walk.now after) (sym is)
    (around store mark _ c.args.walk.now after c.push.new.self.items c.walk_within.new.walk.tags.items c.if-walk-eq0.false
    (c.in_ok-push.ensures.items ∙ ap (λ (e : Child). c.args.walk.now.tags.items ++ Open e ∷ []) c.led_to.ensures)
    c.in_ok-walk_within.ensures.tags c.in_ok-walk_within.ensures.left c.in_ok-push-2.ensures.items)

pub walk_item-returns-in-None : goal.walk_item-returns-in-None
walk_item-returns-in-None g t c =
    let store = g.S.Store.contents c.args.store.now in
    walked_nothing store _ c.args.walk.now
    (ap (λ (ids : List ℕ). marks c.args.depth store (map unmoved ids)) (sym c.in-None.ensures) ∙ no_entries c.args.depth store)

pub walk_within-returns-in_default : goal.walk_within-returns-in_default
walk_within-returns-in_default g t c =
    let store = g.S.Store.contents c.args.store.now in
    let d = c.in_default in
    walked_nothing store _ c.args.walk.now
    (ap (λ (es : List Child). marks c.args.depth store es) (none_within store c.args.object.now d.not-WorkingSet d.not-DataMask d.not-AlarmMask d.not-Container d.not-Key d.not-Button d.not-InputList)
    ∙ no_entries c.args.depth store)
