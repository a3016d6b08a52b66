use Rattle.std.proofs.Common.{◌≤◌, drop, length}
use Rattle.vt_can.specs.transport.FirstTimes.{IsFirstTime}
use Rattle.vt_node.specs.Watches.{heard_of, SomeSilent}
use Rattle.vt_node.proofs.watched.WatchedRegistry.silent_from.Given as goal

abbrev pub invariant-loop-place : goal.invariant-loop-place
invariant-loop-place l = record {
  within : l.place ≤ length l.self.sets;
  first : IsFirstTime (SomeSilent (heard_of l.self.watch) (drop l.place l.self.sets)) l.first;
}

abbrev pub decreases-loop-place : goal.decreases-loop-place
decreases-loop-place l = l.place
