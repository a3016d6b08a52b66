use Rattle.std.proofs.Common.{◌≡◌, [], length, map}
use Rattle.log_expect.proofs.LinesToCome.{IsUnderWay}
use Rattle.log_expect.specs.Differences.{difference_seen}
use Rattle.vt_logs.specs.Progress.{scene}
use Rattle.vt_server.specs.States.{state_of}
use Rattle.log_expect.proofs.comparison.differences.Given as goal

abbrev pub invariant-loop-line : goal.invariant-loop-line
invariant-loop-line l = record {
  way : IsUnderWay (state_of l.fn.terminal) l.log (map difference_seen l.differences.items) (scene l.terminal l.progress.screen.items) l.progress.counts l.rest;
  whole : l.progress.pending.items ≡ [];
}

abbrev pub decreases-loop-line : goal.decreases-loop-line
decreases-loop-line l = length l.rest
