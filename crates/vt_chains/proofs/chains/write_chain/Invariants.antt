use Rattle.vt_chains.specs.Depths.{ids_of, inclusions_of}
use Rattle.vt_chains.proofs.DepthSearch.{IsGrowing}
use Rattle.vt_chains.proofs.chains.write_chain.Given as goal

abbrev pub invariant-loop-step : goal.invariant-loop-step
invariant-loop-step g l =
    IsGrowing (ids_of (g.S.Store.contents l.store)) (inclusions_of (g.S.Store.contents l.store)) l.depths l.fn.index l.index l.step l.count l.chain.items
