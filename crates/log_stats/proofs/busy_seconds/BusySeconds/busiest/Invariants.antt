use Rattle.std.proofs.Common.{◌≡◌, [], MatchOption, take}
use Rattle.log_stats.specs.Seconds.{IsFirstMost}
use Rattle.log_stats.proofs.busy_seconds.BusySeconds.busiest.Given as goal

abbrev pub invariant-loop-second : goal.invariant-loop-second
invariant-loop-second l =
    (l.second-items ≡ l.self.seconds.items)
    × MatchOption l.busiest (take l.second-index l.second-items ≡ []) (IsFirstMost (take l.second-index l.second-items))
