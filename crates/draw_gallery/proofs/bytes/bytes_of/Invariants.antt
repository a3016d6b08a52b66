use Rattle.std.proofs.Common.{◌≡◌, ◌++◌, map, drop}
use Rattle.vt_pool.specs.Pools.{joined}
use Rattle.vt_stores.specs.Stores.{AreStored, seen_entry}
use Rattle.draw_gallery.proofs.bytes.bytes_of.Given as goal

abbrev pub invariant-loop-id : goal.invariant-loop-id
invariant-loop-id l =
    (map seen_entry l.id-items ≡ l.store)
    × AreStored l.store
    × (joined l.store ≡ l.bytes.items ++ joined (map seen_entry (drop l.id-index l.id-items)))
