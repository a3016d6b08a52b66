use Rattle.std.proofs.Common.{ℕ, ◌<◌, ◌≤◌}
use Rattle.std.specs.Prelude.{slice_index}
use Rattle.vt_chains.specs.Depths.{ids_of, inclusions_of, AreDepthsSoFar}
use Rattle.vt_chains.proofs.chains.find_depths.Given as goal

abbrev pub invariant-loop-index : goal.invariant-loop-index
invariant-loop-index g l =
    AreDepthsSoFar (ids_of (g.S.Store.contents l.store)) (inclusions_of (g.S.Store.contents l.store)) l.depths
    × ((index : ℕ) → index < l.index → slice_index l.depths index ≤ l.most)
