use Rattle.std.proofs.Common.{length}
use Rattle.vt_logs.specs.Progress.{replay_point}
use Rattle.vt_logs.proofs.ReplayInvariants.{IsMidway}
use Rattle.vt_logs.proofs.progress.Progress.take_chunk.Given as goal

abbrev pub invariant-loop-line : goal.invariant-loop-line
invariant-loop-line g l =
    IsMidway (replay_point l.initial.terminal l.initial.self.screen.items l.initial.self.counts (g.W.Write.contents l.initial.writer)) l.initial.self.pending.items l.chunk
    (replay_point l.terminal l.self.screen.items l.self.counts (g.W.Write.contents l.writer)) l.self.pending.items l.rest

abbrev pub decreases-loop-line : goal.decreases-loop-line
decreases-loop-line g l = length l.rest
