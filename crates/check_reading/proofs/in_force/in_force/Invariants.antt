use Rattle.std.proofs.Common.{map, length}
use Rattle.std.specs.Prelude.{nat_eq}
use Rattle.indexmap.specs.IndexMap.{get}
use Rattle.vt_stores.specs.Stores.{seen_entry}
use Rattle.check_reading.specs.Readings.{found_at}
use Rattle.check_reading.proofs.lemmas.InForce.{IsCollecting}
use Rattle.check_reading.proofs.in_force.in_force.Given as goal

abbrev pub invariant-loop-record : goal.invariant-loop-record
invariant-loop-record l =
    IsCollecting (map found_at l.initial.found.items) (map found_at l.found.items) (map seen_entry l.entries.items) (λ q. get nat_eq l.places q) l.replaced.items

abbrev pub decreases-loop-record : goal.decreases-loop-record
decreases-loop-record l = length l.found.items
