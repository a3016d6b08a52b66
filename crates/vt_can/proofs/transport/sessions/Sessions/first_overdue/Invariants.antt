use Rattle.std.proofs.Common.{◌≡◌, ℕ, ◌<◌, false, None, get_or}
use Rattle.vt_can.specs.transport.Sessions.{is_overdue}
use Rattle.vt_can.proofs.lemmas.transport.Places.{IsBound}
use Rattle.vt_can.proofs.transport.sessions.Sessions.first_overdue.Given as goal

abbrev pub invariant-loop-address : goal.invariant-loop-address
invariant-loop-address g l = record {
  fresh : (q : ℕ) → q < l.address → is_overdue l.timeout l.now (get_or l.place-items q None) ≡ false;
  bound : IsBound l.place-items l.address l.earliest;
}
