use Rattle.std.proofs.Common.{ℕ, ap, subst}
use Rattle.vt_can.specs.Assigned.{SENDER_TIMEOUT}
use Rattle.vt_can.specs.transport.FirstTimes.{IsFirstTime}
use Rattle.vt_can.specs.transport.Messages.{Message}
use Rattle.vt_can.specs.transport.Sessions.{ByAddress, SomeOverdue}
use Rattle.vt_transport.specs.Senders.{SenderState}
use Rattle.vt_transport.proofs.sender.Sender.overdue_from.Goals as goal

pub returns : goal.returns
returns c =
    subst (λ (m : ByAddress Message). IsFirstTime (SomeOverdue SENDER_TIMEOUT m) c.overdue_from.result)
    (ap (λ (s : SenderState). s.sessions) c.self.view_is)
    (subst (λ (timeout : ℕ). IsFirstTime (SomeOverdue timeout c.self.inside.sessions.sessions) c.overdue_from.result) c.self.invariant c.overdue_from.ensures)
