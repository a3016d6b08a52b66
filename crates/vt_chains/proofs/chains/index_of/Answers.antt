use Rattle.std.specs.FinMap as finite
use Rattle.vt_chains.proofs.IdIndices.{stands_of, missing_nowhere}
use Rattle.vt_chains.proofs.chains.index_of.Goals as goal

pub unreachable-requires : goal.unreachable-requires
unreachable-requires g c = missing_nowhere (g.S.Store.contents c.args.store.now) c.requires.0 c.args.id c.requires.1 c.in-None.ensures.none

pub returns : goal.returns
returns g c =
    let at = c.in-Some.ensures.some in
    stands_of (finite.entries (g.S.Store.contents c.args.store.now)) c.in-Some.index c.args.id at.object at.there
