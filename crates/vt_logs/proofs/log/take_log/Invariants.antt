use Rattle.std.proofs.Common.{◌≡◌, length}
use Rattle.vt_logs.specs.Progress.{replay_point}
use Rattle.vt_logs.specs.Texts.{no_counts}
use Rattle.vt_logs.proofs.ReplayInvariants.{IsUnderWay}
use Rattle.vt_logs.proofs.log.take_log.Given as goal

abbrev pub invariant-loop : goal.invariant-loop
invariant-loop g l = record {
  way : IsUnderWay (replay_point l.initial.terminal l.initial.progress.screen.items no_counts (g.W.Write.contents l.initial.writer))
      (g.R.Read.remaining l.initial.reader) (g.R.Read.remaining l.reader)
      (replay_point l.terminal l.progress.screen.items l.progress.counts (g.W.Write.contents l.writer)) l.progress.pending.items l.counter;
  chunk : length l.chunk.items ≡ 65536;
}
