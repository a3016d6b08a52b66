use Rattle.std.proofs.Common.{◌≡◌, length}
use Rattle.log_traffic.specs.Sightings.{AreLeft}
use Rattle.log_traffic.proofs.sightings.Sightings.forget_before.Given as goal

abbrev pub invariant-loop-oldest : goal.invariant-loop-oldest
invariant-loop-oldest l = AreLeft l.time l.initial.self.recent.items l.self.recent.items × (l.self.seen_twice ≡ l.initial.self.seen_twice)

abbrev pub decreases-loop-oldest : goal.decreases-loop-oldest
decreases-loop-oldest l = length l.self.recent.items
