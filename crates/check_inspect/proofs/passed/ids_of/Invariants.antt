use Rattle.std.proofs.Common.{◌≡◌, ℕ, Bool, ◌||◌, drop, nat_eq}
use Rattle.indexmap.specs.IndexSet.{contains}
use Rattle.check_inspect.specs.Inspections.{has_id}
use Rattle.check_inspect.proofs.passed.ids_of.Given as goal

-- an ID is in the set, or that of one of the records to come, exactly if it is that of a record
abbrev pub invariant-loop-record : goal.invariant-loop-record
invariant-loop-record l = (id : ℕ) → (contains nat_eq l.ids id || has_id (drop l.record-index l.passed) id) ≡ has_id l.passed id
