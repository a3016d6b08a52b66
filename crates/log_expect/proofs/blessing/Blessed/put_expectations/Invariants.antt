use Rattle.std.proofs.Common.{length}
use Rattle.log_expect.proofs.KeptLines.{AddsExpectations}
use Rattle.log_expect.proofs.blessing.Blessed.put_expectations.Given as goal

abbrev pub invariant-loop-line : goal.invariant-loop-line
invariant-loop-line l = AddsExpectations l.initial.self.text.items l.self.text.items

abbrev pub decreases-loop-line : goal.decreases-loop-line
decreases-loop-line l = length l.rest
