use Rattle.std.proofs.Common.{◌≡◌, ◌≤◌, ◌⊎◌, refl, ℕ, Bool, true, List, length, drop, get_or, ap, subst, sym, ◌∙◌, arith}
use Rattle.vt_stores.specs.Stores.{ObjectMap}
use Rattle.vt_chains.specs.Depths.{ids_of}
use Rattle.vt_chains.proofs.IdIndices.{stands_of, within}
use Rattle.vt_shown.specs.ShownMarks.{AreShown}
use Rattle.vt_shown.specs.ShownElements.{IsShown}
use Rattle.vt_machine.specs.SetStates.{HasMarks, active_in}
use Rattle.vt_machine.proofs.MarksKept.{all_marks, mark_shows, mark_hides, search_hides, search_marks}
use Rattle.std.specs.FinMap as finite
use Rattle.vt_machine.proofs.live.Live.shows.Goals as goal

pub returns-then-self-2-clause-not_shown : goal.returns-then-self-2-clause-not_shown
returns-then-self-2-clause-not_shown g c clear =
    let m = g.S.Store.contents c.self.inside.store in
    let marks = c.self.inside.marks.items in
    subst (λ (o : ObjectMap). IsShown o (active_in o) c.args.id → ⊥) (ap (λ s. s.objects) c.self.view_is)
    (mark_hides m c.args.id c.in-Some.index marks c.index.result.now c.in-Some.ensures.some (c.self.invariant.2.all c.if-self.true c.if-self-2.true) c.index.ensures clear)

pub index-requires-then-self-3 : goal.index-requires-then-self-3
index-requires-then-self-3 g c =
    let m = g.S.Store.contents c.self.inside.store in
    let at = c.in-Some.ensures.some in
    let inside = within (ids_of m) c.in-Some.index c.args.id (stands_of (finite.entries m) c.in-Some.index c.args.id at.object at.there) in
    let each = c.self.invariant.2.each in
    let len = c.self.inside.marks.ok.0 in
    omega (arith, inside, each, len)

pub returns-then-index-clause-shown : goal.returns-then-index-clause-shown
returns-then-index-clause-shown g c always =
    let m = g.S.Store.contents c.self.inside.store in
    let marks = c.self.inside.marks.items in
    subst (λ (o : ObjectMap). IsShown o (active_in o) c.args.id) (ap (λ s. s.objects) c.self.view_is)
    (mark_shows m c.args.id c.in-Some.index marks c.index-then-self-3.result.now c.in-Some.ensures.some (c.self.invariant.2.shown c.if-self-3.true) c.index-then-self-3.ensures c.if-index.true)

pub index-requires-2 : goal.index-requires-2
index-requires-2 g c =
    let m = g.S.Store.contents c.self.inside.store in
    let at = c.in-Some.ensures.some in
    let inside = within (ids_of m) c.in-Some.index c.args.id (stands_of (finite.entries m) c.in-Some.index c.args.id at.object at.there) in
    let each = c.self.invariant.2.each in
    let len = c.self.inside.marks.ok.0 in
    omega (arith, inside, each, len)

pub invariant_of-self : goal.invariant_of-self
invariant_of-self g c =
    let m = g.S.Store.contents c.self.inside.store in
    let new = c.search_shown-is_found.new.marks in
    let old = c.self.inside.marks.items in
    let long : length new ≡ c.self.inside.marks.len = c.search_shown-is_found.ensures.some.each ∙ sym c.self.invariant.2.each ∙ sym c.self.inside.marks.ok.0 in (
      c.self.invariant.0,
      c.self.invariant.1,
      subst (HasMarks m true _) (sym (all_marks c.self.inside.marks.len new (drop (length new) old) long))
          (search_marks m c.active_mask-mask.result new c.search_shown-is_found.result (c.active_mask-mask.ensures.active ∙ ap active_in (sym (ap (λ s. s.objects) c.self.view_is)))
          c.search_shown-is_found.ensures.some c.search_shown-is_found.ensures.all),
      c.self.invariant.3,
    )

pub returns-clause-shown : goal.returns-clause-shown
returns-clause-shown g c set =
    let m = g.S.Store.contents c.self.inside.store in
    let new = c.search_shown-is_found.new.marks in
    let old = c.self.inside.marks.items in
    let long : length new ≡ c.self.inside.marks.len = c.search_shown-is_found.ensures.some.each ∙ sym c.self.invariant.2.each ∙ sym c.self.inside.marks.ok.0 in
    let marks = search_marks m c.active_mask-mask.result new c.search_shown-is_found.result (c.active_mask-mask.ensures.active ∙ ap active_in (sym (ap (λ s. s.objects) c.self.view_is)))
    c.search_shown-is_found.ensures.some c.search_shown-is_found.ensures.all in
    let is = c.index-2.ensures ∙ ap (λ (xs : List Bool). get_or xs c.in-Some.index c.index-2.result.now) (all_marks c.self.inside.marks.len new (drop (length new) old) long) in
    subst (λ (o : ObjectMap). IsShown o (active_in o) c.args.id) (ap (λ s. s.objects) c.self.view_is)
    (mark_shows m c.args.id c.in-Some.index new c.index-2.result.now c.in-Some.ensures.some (marks.shown refl) is set)

pub returns-clause-not_shown : goal.returns-clause-not_shown
returns-clause-not_shown g c clear =
    let m = g.S.Store.contents c.self.inside.store in
    let new = c.search_shown-is_found.new.marks in
    let old = c.self.inside.marks.items in
    let long : length new ≡ c.self.inside.marks.len = c.search_shown-is_found.ensures.some.each ∙ sym c.self.invariant.2.each ∙ sym c.self.inside.marks.ok.0 in
    let active = c.active_mask-mask.ensures.active ∙ ap active_in (sym (ap (λ s. s.objects) c.self.view_is)) in
    let is = c.index-2.ensures ∙ ap (λ (xs : List Bool). get_or xs c.in-Some.index c.index-2.result.now) (all_marks c.self.inside.marks.len new (drop (length new) old) long) in
    subst (λ (o : ObjectMap). IsShown o (active_in o) c.args.id → ⊥) (ap (λ s. s.objects) c.self.view_is)
    (search_hides m c.args.id c.in-Some.index c.sought-sought.result new c.index-2.result.now c.search_shown-is_found.result c.in-Some.ensures.some
    c.search_shown-is_found.ensures.some.each
    (subst (λ (o : ObjectMap). (c.sought-sought.result ≡ c.in-Some.index) ⊎ (length (ids_of o) ≤ c.sought-sought.result)) (sym (ap (λ s. s.objects) c.self.view_is)) c.sought-sought.ensures)
    c.search_shown-is_found.ensures.found (λ none. subst (λ (k : ℕ). AreShown m k new) active (c.search_shown-is_found.ensures.all none)) is clear)
