use Rattle.std.proofs.Common.{map, vec_len}
use Rattle.vt_stores.specs.Stores.{seen_entry}
use Rattle.vt_machine.proofs.ReplacedObjects.{ArePut}
use Rattle.vt_machine.proofs.replacement.put_all.Given as goal

abbrev pub invariant-loop-id : goal.invariant-loop-id
invariant-loop-id g l =
    ArePut (g.S.Store.contents l.initial.store) (map seen_entry l.initial.entries.items) (g.S.Store.contents l.store) (map seen_entry l.entries.items)

abbrev pub decreases-loop-id : goal.decreases-loop-id
decreases-loop-id g l = vec_len l.entries
