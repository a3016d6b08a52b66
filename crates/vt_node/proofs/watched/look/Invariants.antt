use Rattle.std.proofs.Common.{◌≡◌, ◌≤◌, ℕ, List, Option, drop, length}
use Rattle.vt_names.specs.Registry.{Set}
use Rattle.vt_node.specs.Watches.{first_silent_of}
use Rattle.vt_node.specs.Registries.{AreHeardSince}
use Rattle.vt_node.specs.Watches.{heard_of}
use Rattle.vt_node.specs.declared.watched.Found.{Found}
use Rattle.vt_node.proofs.watched.look.Given as goal

-- the result of the search of the sets from an index on
pub record IsFoundFrom (now : ℕ) (heard : ℕ → Option ℕ) (sets : List Set) (found : Found) (place : ℕ) : Type 0 where
  pub within : place ≤ length sets
  pub silent : found.silent ≡ first_silent_of now heard (drop place sets)
  pub earliest : AreHeardSince found.earliest heard (drop place sets)

abbrev pub invariant-loop-place : goal.invariant-loop-place
invariant-loop-place l = IsFoundFrom l.now (heard_of l.watch) l.registry.sets l.found l.place

abbrev pub decreases-loop-place : goal.decreases-loop-place
decreases-loop-place l = l.place
