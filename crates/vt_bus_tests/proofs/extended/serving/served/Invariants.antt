use Rattle.std.proofs.Common.{◌≡◌, ℕ}
use Rattle.std.specs.FinMap as finite
use Rattle.vt_can.specs.Assigned.{ETP_TIMEOUT}
use Rattle.vt_can.specs.transport.Sessions.{alive}
use Rattle.vt_bus_tests.proofs.extended.serving.served.Given as goal

abbrev pub invariant-loop-abort : goal.invariant-loop-abort
invariant-loop-abort l = record {
  own_address : l.receiver.own_address ≡ l.initial.receiver.own_address;
  spare : l.receiver.spare ≡ l.initial.receiver.spare;
  sessions : (q : ℕ) → alive ETP_TIMEOUT l.now (finite.get l.receiver.sessions q) ≡ alive ETP_TIMEOUT l.now (finite.get l.initial.receiver.sessions q);
}

abbrev pub decreases-loop-abort : goal.decreases-loop-abort
decreases-loop-abort l = finite.len l.receiver.sessions
