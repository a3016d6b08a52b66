use Rattle.std.proofs.Common.{ℕ, ap, subst}
use Rattle.vt_can.specs.Assigned.{ETP_TIMEOUT}
use Rattle.vt_can.specs.transport.FirstTimes.{IsFirstTime}
use Rattle.vt_can.specs.transport.Receivers.{ReceiverState}
use Rattle.vt_can.specs.transport.Sessions.{ByAddress, SomeOverdue}
use Rattle.vt_extended.specs.SessionState.{SessionState}
use Rattle.vt_extended.proofs.receiver.Receiver.overdue_from.Goals as goal

pub returns : goal.returns
returns c =
    subst (λ (m : ByAddress SessionState). IsFirstTime (SomeOverdue ETP_TIMEOUT m) c.overdue_from.result)
    (ap (λ (r : ReceiverState SessionState). r.sessions) c.self.view_is)
    (subst (λ (timeout : ℕ). IsFirstTime (SomeOverdue timeout c.self.inside.sessions.sessions) c.overdue_from.result) c.self.invariant.1 c.overdue_from.ensures)
