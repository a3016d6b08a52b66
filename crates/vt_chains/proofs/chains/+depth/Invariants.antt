use Rattle.std.proofs.Common.{◌+◌, ◌*◌}
use Rattle.vt_chains.specs.Depths.{ids_of, inclusions_of}
use Rattle.vt_chains.proofs.DepthSearch.{IsSearch}
use Rattle.vt_chains.proofs.chains.+depth.Given as goal

abbrev pub decreases-depth_at : goal.decreases-depth_at
decreases-depth_at g l = 4 * l.most + 3

abbrev pub decreases-depth_of_entry : goal.decreases-depth_of_entry
decreases-depth_of_entry g l = 4 * l.most + 2

abbrev pub decreases-deepest : goal.decreases-deepest
decreases-deepest g l = 4 * l.most + 1

abbrev pub decreases-depth_of_included : goal.decreases-depth_of_included
decreases-depth_of_included g l = 4 * l.most

abbrev pub invariant-deepest-loop-slot : goal.invariant-deepest-loop-slot
invariant-deepest-loop-slot g l =
    (goal.iterator-deepest-loop-slot g).can_next l.slot-iterator
    × (goal.iterator-deepest-loop-slot g).is_finite l.slot-iterator
    × IsSearch (ids_of (g.S.Store.contents l.store)) (inclusions_of (g.S.Store.contents l.store)) l.fn.depths l.depths l.fn.id l.deepest l.most l.slot-iterator
