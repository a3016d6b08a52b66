use Rattle.std.proofs.Common.{◌+◌, sym, subst, arith}
use Rattle.vt_chains.specs.Depths.{ids_of, inclusions_of}
use Rattle.vt_chains.proofs.IdIndices.{within}
use Rattle.vt_chains.proofs.DepthSearch.{IsGrowing, growing_more}
use Rattle.vt_chains.proofs.chains.write_chain.Goals as goal

pub loop-step-preserved : goal.loop-step-preserved
loop-step-preserved g c =
    let m = g.S.Store.contents c.args.store.now in
    let lt = c.loop-step-test.true in
    let deep = c.next-index.ensures.deep in
    let each = c.requires.found.each in
    let inside = within (ids_of m) c.next-index.result _ c.entry-in-loop-step.ensures.stands in
    subst (IsGrowing (ids_of m) (inclusions_of m) c.args.depths.now c.args.index c.next-index.result (c.loop-step.step + 1) c.args.count) (sym c.push-in-loop-step.ensures.items)
    (growing_more (ids_of m) (inclusions_of m) c.args.depths.now c.args.index c.loop-step.index c.next-index.result c.loop-step.step c.args.count _ c.loop-step.chain.items lt
    c.next-index.ensures.next (omega (arith, deep, lt)) (omega (arith, inside, each)) c.next-index.ensures.found c.entry-in-loop-step.ensures.stands c.loop-step.invariant)
