use Rattle.std.proofs.Common.{arith}
use Rattle.std.specs.FinMap as finite
use Rattle.vt_chains.specs.Depths.{ids_of, inclusions_of}
use Rattle.vt_chains.proofs.InclusionsInStore.{sourced}
use Rattle.vt_chains.proofs.DepthSearch.{all_found, show_shallow}
use Rattle.vt_chains.proofs.chains.find_depths.Goals as goal

pub returns-clause-ok : goal.returns-clause-ok
returns-clause-ok g c =
    let m = g.S.Store.contents c.args.store.now in
    let most = c.requires.most in
    let end = c.loop-index-test.false in
    let len = c.loop-index.auto.depths in
    let all = c.loop-index.auto.index-end in
    all_found (ids_of m) (inclusions_of m) c.loop-index.depths c.args.most (omega (arith, most)) c.loop-index.invariant.0
    (λ index lt. c.loop-index.invariant.1 index (omega (arith, lt, end, len, all)))

pub returns-clause-shallow : goal.returns-clause-shallow
returns-clause-shallow g c =
    let m = g.S.Store.contents c.args.store.now in
    show_shallow (ids_of m) (inclusions_of m) c.args.most c.loop-index.depths (sourced (finite.entries m)) (returns-clause-ok g c)
