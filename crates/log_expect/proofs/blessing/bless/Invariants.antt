use Rattle.std.proofs.Common.{length}
use Rattle.log_expect.proofs.KeptLines.{AreKept}
use Rattle.vt_server.specs.shown.Screens.{IsScreenOf}
use Rattle.vt_server.specs.States.{state_of}
use Rattle.log_expect.proofs.blessing.bless.Given as goal

abbrev pub invariant-loop-line : goal.invariant-loop-line
invariant-loop-line l = record {
  drawn : IsScreenOf (state_of l.terminal) l.progress.screen.items;
  kept : AreKept l.blessed.text.items l.log l.rest;
}

abbrev pub decreases-loop-line : goal.decreases-loop-line
decreases-loop-line l = length l.rest
