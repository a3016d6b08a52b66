use Rattle.std.proofs.Common.{ℕ, ◌+◌, List, sym, ap, subst, ◌∙◌, arith}
use Rattle.vt_kinds.specs.declared.slot.Slot.{Slot}
use Rattle.std.specs.Prelude.{Contains}
use Rattle.vt_chains.specs.Depths.{ids_of, inclusions_of}
use Rattle.vt_chains.proofs.IdIndices.{once}
use Rattle.vt_chains.proofs.Slots.{included_in, inclusions_are, in_first}
use Rattle.vt_chains.proofs.Maximum.{max_is}
use Rattle.vt_chains.proofs.DepthSearch.{IsSearch, search_begins, search_goes_on, put_depth, put_keeps, KeepsDepths-trans}
use Rattle.vt_chains.proofs.chains.+depth.Goals as goal

pub deepest-loop-slot-init : goal.deepest-loop-slot-init
deepest-loop-slot-init g t c =
    let m = g.S.Store.contents c.args.store.now in (
      tt,
      tt,
      search_begins (ids_of m) (inclusions_of m) c.args.depths.now c.args.id c.args.most c.into_iter-slot-iterator.result c.requires.found
          (inclusions_are m c.args.id c.args.object.now c.requires.object
          ∙ ap included_in (sym (c.into_iter-slot-iterator.ensures.into_iter_gives ∙ c.slots-slot-items.ensures))),
    )

pub deepest-depth_of_included-requires : goal.deepest-depth_of_included-requires
deepest-depth_of_included-requires g t c κs within =
    let m = g.S.Store.contents c.args.store.now in
    let here = in_first c.in-Some.slot c.next.new.self (sym c.includes.ensures ∙ c.if-includes.true) in
    let among = c.loop-slot.invariant.2.among c.in-Some.slot.id (subst (λ (l : List Slot). Contains (included_in l) c.in-Some.slot.id) (sym c.in-Some.ensures.steps) here) in
    (omega arith, (within, (c.requires.closed c.args.id c.in-Some.slot.id among, (c.loop-slot.invariant.2.found, (c.requires.closed, c.requires.most)))))

pub deepest-loop-slot-preserved-then-includes : goal.deepest-loop-slot-preserved-then-includes
deepest-loop-slot-preserved-then-includes g t c =
    let m = g.S.Store.contents c.args.store.now in
    let lt = c.in_ok-depth.ensures.within in (
      tt,
      tt,
      subst (λ (n : ℕ). IsSearch (ids_of m) (inclusions_of m) c.args.depths.now c.depth_of_included.new.depths c.args.id n c.args.most c.next.new.self) (sym (c.max-deepest.ensures ∙ max_is c.loop-slot.deepest (c.in_ok-depth.depth + 1)))
          (search_goes_on (ids_of m) (inclusions_of m) c.args.depths.now c.loop-slot.depths c.depth_of_included.new.depths c.args.id c.loop-slot.deepest c.args.most c.in-Some.slot
          c.next.new.self _ c.requires.most (sym c.includes.ensures ∙ c.if-includes.true) c.depth_of_included.ensures.found c.depth_of_included.ensures.keeps
          c.in_ok-depth.ensures.some lt
          (subst (IsSearch (ids_of m) (inclusions_of m) c.args.depths.now c.loop-slot.depths c.args.id c.loop-slot.deepest c.args.most) c.in-Some.ensures.steps c.loop-slot.invariant.2)),
    )

pub depth_of_entry-returns-in-Some-clause-found : goal.depth_of_entry-returns-in-Some-clause-found
depth_of_entry-returns-in-Some-clause-found g t c =
    let m = g.S.Store.contents c.args.store.now in
    let le = c.in-Some.ensures.within in
    let most = c.requires.most in
    put_depth (ids_of m) (inclusions_of m) c.deepest.new.depths (once m) c.deepest.ensures.found c.args.index _ c.in-Some.depth c.entry-id.ensures.stands (omega (arith, le, most)) c.in-Some.ensures.some

pub depth_of_entry-returns-in-Some-clause-keeps : goal.depth_of_entry-returns-in-Some-clause-keeps
depth_of_entry-returns-in-Some-clause-keeps g t c =
    let m = g.S.Store.contents c.args.store.now in
    let le = c.in-Some.ensures.within in
    let most = c.requires.most in
    KeepsDepths-trans c.args.depths.now c.deepest.new.depths _ c.deepest.ensures.keeps
    (put_keeps (ids_of m) (inclusions_of m) c.deepest.new.depths (once m) c.deepest.ensures.found c.args.index _ c.in-Some.depth c.entry-id.ensures.stands (omega (arith, le, most)) c.in-Some.ensures.some)
