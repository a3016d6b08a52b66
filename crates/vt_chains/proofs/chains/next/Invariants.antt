use Rattle.std.proofs.Common.{ℕ}
use Rattle.std.specs.Prelude.{Contains}
use Rattle.vt_chains.specs.Depths.{ids_of, inclusions_of, IsIdAt}
use Rattle.vt_chains.proofs.Slots.{included_in}
use Rattle.vt_chains.proofs.DepthSearch.{IsDeep}
use Rattle.vt_chains.proofs.chains.next.Given as goal

abbrev pub invariant-loop-slot : goal.invariant-loop-slot
invariant-loop-slot g l =
    (goal.iterator-loop-slot g).can_next l.slot-iterator
    × (goal.iterator-loop-slot g).is_finite l.slot-iterator
    × ((id : ℕ) → IsIdAt (ids_of (g.S.Store.contents l.store)) l.index id
    → ((other : ℕ) → Contains (included_in l.slot-iterator) other → Contains (inclusions_of (g.S.Store.contents l.store) id) other)
    × ((other : ℕ) × Contains (included_in l.slot-iterator) other × IsDeep (ids_of (g.S.Store.contents l.store)) l.depths other l.depth))
