use Rattle.vt_can.specs.transport.FirstTimes.{IsFirstTime}
use Rattle.vt_can.proofs.lemmas.transport.FirstTimes.{SomeOverdueBelow}
use Rattle.vt_can.proofs.transport.sessions.Sessions.overdue_from.Given as goal

abbrev pub invariant-loop-place : goal.invariant-loop-place
invariant-loop-place g l = IsFirstTime (SomeOverdueBelow l.timeout l.place-items l.place-index) l.first
