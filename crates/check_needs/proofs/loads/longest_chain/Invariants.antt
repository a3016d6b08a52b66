use Rattle.std.proofs.Common.{◌≡◌, drop}
use Rattle.std.specs.Prelude.{max}
use Rattle.check_needs.specs.Needs.{greatest}
use Rattle.check_needs.proofs.loads.longest_chain.Given as goal

abbrev pub invariant-loop-depth : goal.invariant-loop-depth
invariant-loop-depth l = greatest l.depths ≡ max l.longest (greatest (drop l.depth-index l.depths))
