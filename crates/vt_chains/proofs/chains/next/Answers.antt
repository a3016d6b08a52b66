use Rattle.std.proofs.Common.{ℕ, List, sym, ap, subst, ◌∙◌, arith}
use Rattle.std.specs.Prelude.{Contains}
use Rattle.vt_kinds.specs.declared.slot.Slot.{Slot}
use Rattle.vt_chains.specs.Depths.{ids_of, inclusions_of, IsIdAt}
use Rattle.vt_chains.proofs.Elements.{Contains-nil}
use Rattle.vt_chains.proofs.IdIndices.{once, same_id, someone, within}
use Rattle.vt_chains.proofs.Slots.{included_in, inclusions_are, in_first, in_more, slot_case}
use Rattle.vt_chains.proofs.DepthSearch.{IsDeep, deep_next, next_is_found}
use Rattle.vt_chains.proofs.chains.next.Goals as goal

pub loop-slot-init : goal.loop-slot-init
loop-slot-init g c = (
  tt,
  tt,
  λ id stands.
      let m = g.S.Store.contents c.args.store.now in
      let same = same_id (ids_of m) c.args.index c.entry.result.0 id c.entry.ensures.stands stands in
      let is = ap (inclusions_of m) (sym same) ∙ inclusions_are m c.entry.result.0 c.entry.result.1.now c.entry.ensures.object
      ∙ ap included_in (sym (c.into_iter-slot-iterator.ensures.into_iter_gives ∙ c.slots-slot-items.ensures)) in
      let deep = deep_next (ids_of m) (inclusions_of m) c.args.depths.now (once m) c.requires.found c.args.index id c.args.depth stands c.requires.is_found c.requires.deep in (
        λ other h. subst (λ (l : List ℕ). Contains l other) (sym is) h,
        (deep.0, subst (λ (l : List ℕ). Contains l deep.0) is deep.1, deep.2),
      ),
)

pub index_of-next-requires : goal.index_of-next-requires
index_of-next-requires g c =
    let m = g.S.Store.contents c.args.store.now in
    let index = c.requires.index in
    let each = c.requires.found.each in
    let one = someone (ids_of m) c.args.index (omega (arith, index, each)) in
    let here = in_first c.in-Some.slot c.next.new.self (sym c.includes.ensures ∙ c.if-includes.true) in
    c.requires.closed one.0 c.in-Some.slot.id
    ((c.loop-slot.invariant.2 one.0 one.1).0 c.in-Some.slot.id (subst (λ (l : List Slot). Contains (included_in l) c.in-Some.slot.id) (sym c.in-Some.ensures.steps) here))

pub bounds-depths-next : goal.bounds-depths-next
bounds-depths-next g c =
    let m = g.S.Store.contents c.args.store.now in
    let inside = within (ids_of m) c.index_of-next.result c.in-Some.slot.id c.index_of-next.ensures in
    let each = c.requires.found.each in
    omega (arith, inside, each)

pub returns-then-depths-next-clause-next : goal.returns-then-depths-next-clause-next
returns-then-depths-next-clause-next g c id stands =
    let here = in_first c.in-Some.slot c.next.new.self (sym c.includes.ensures ∙ c.if-includes.true) in (
      c.in-Some.slot.id,
      (c.loop-slot.invariant.2 id stands).0 c.in-Some.slot.id (subst (λ (l : List Slot). Contains (included_in l) c.in-Some.slot.id) (sym c.in-Some.ensures.steps) here),
      c.index_of-next.ensures,
    )

pub returns-then-depths-next-clause-found : goal.returns-then-depths-next-clause-found
returns-then-depths-next-clause-found g c =
    let m = g.S.Store.contents c.args.store.now in
    let index = c.requires.index in
    let each = c.requires.found.each in
    let one = someone (ids_of m) c.args.index (omega (arith, index, each)) in
    let here = in_first c.in-Some.slot c.next.new.self (sym c.includes.ensures ∙ c.if-includes.true) in
    next_is_found (ids_of m) (inclusions_of m) c.args.depths.now (once m) c.requires.found c.args.index one.0 c.in-Some.slot.id c.index_of-next.result one.1 c.requires.is_found
    ((c.loop-slot.invariant.2 one.0 one.1).0 c.in-Some.slot.id (subst (λ (l : List Slot). Contains (included_in l) c.in-Some.slot.id) (sym c.in-Some.ensures.steps) here))
    c.index_of-next.ensures

pub loop-slot-preserved-else-depths-next : goal.loop-slot-preserved-else-depths-next
loop-slot-preserved-else-depths-next g c = (
  tt,
  tt,
  λ id stands.
      let m = g.S.Store.contents c.args.store.now in
      let before = c.loop-slot.invariant.2 id stands in
      let left = c.next.new.self in
      let lt = c.if-depths-next.false in (
        λ other h. before.0 other (subst (λ (l : List Slot). Contains (included_in l) other) (sym c.in-Some.ensures.steps) (in_more c.in-Some.slot left other h)),
        slot_case ((other : ℕ) × Contains (included_in left) other × IsDeep (ids_of m) c.args.depths.now other c.args.depth) c.in-Some.slot left before.1.0
            (subst (λ (l : List Slot). Contains (included_in l) before.1.0) c.in-Some.ensures.steps before.1.1)
            (λ is same.
            let deep = before.1.2 c.index_of-next.result (subst (λ (k : ℕ). IsIdAt (ids_of m) c.index_of-next.result k) same c.index_of-next.ensures) in
            absurd (omega (arith, deep, lt)))
            (λ later. (before.1.0, later, before.1.2)),
      ),
)

pub loop-slot-preserved : goal.loop-slot-preserved
loop-slot-preserved g c = (
  tt,
  tt,
  λ id stands.
      let m = g.S.Store.contents c.args.store.now in
      let before = c.loop-slot.invariant.2 id stands in
      let left = c.next.new.self in (
        λ other h. before.0 other (subst (λ (l : List Slot). Contains (included_in l) other) (sym c.in-Some.ensures.steps) (in_more c.in-Some.slot left other h)),
        slot_case ((other : ℕ) × Contains (included_in left) other × IsDeep (ids_of m) c.args.depths.now other c.args.depth) c.in-Some.slot left before.1.0
            (subst (λ (l : List Slot). Contains (included_in l) before.1.0) c.in-Some.ensures.steps before.1.1)
            (λ is same. let never = sym is ∙ sym c.includes.ensures ∙ c.if-includes.false in absurd cc)
            (λ later. (before.1.0, later, before.1.2)),
      ),
)

pub unreachable-requires : goal.unreachable-requires
unreachable-requires g c =
    let m = g.S.Store.contents c.args.store.now in
    let index = c.requires.index in
    let each = c.requires.found.each in
    let one = someone (ids_of m) c.args.index (omega (arith, index, each)) in
    let deep = (c.loop-slot.invariant.2 one.0 one.1).1 in
    Contains-nil deep.0 (subst (λ (l : List Slot). Contains (included_in l) deep.0) c.in-None.ensures.steps.0 deep.1)
