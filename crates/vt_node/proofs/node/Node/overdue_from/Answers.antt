use Rattle.std.proofs.Common.{◌⊎◌, sym, subst}
use Rattle.vt_can.specs.Assigned.{TP_TIMEOUT, ETP_TIMEOUT, SENDER_TIMEOUT}
use Rattle.vt_can.specs.transport.FirstTimes.{IsFirstTime}
use Rattle.vt_can.specs.transport.Sessions.{SomeOverdue}
use Rattle.vt_can.proofs.lemmas.transport.FirstTimes.{first_either}
use Rattle.vt_node.specs.Nodes.{NodeState, HasOverdue}
use Rattle.vt_node.proofs.node.Node.overdue_from.Goals as goal

pub returns : goal.returns
returns c =
    let tp = SomeOverdue TP_TIMEOUT c.self.inside.tp.sessions in
    let etp = SomeOverdue ETP_TIMEOUT c.self.inside.etp.sessions in
    let sending = SomeOverdue SENDER_TIMEOUT c.self.inside.sender.sessions in
    let receiving = subst (IsFirstTime (λ now. tp now ⊎ etp now)) (sym c.earlier-receiving.ensures) (first_either tp etp _ _ c.overdue_from.ensures c.overdue_from-2.ensures) in
    subst (λ (n : NodeState). IsFirstTime (HasOverdue n) c.earlier.result) c.self.view_is
    (subst (IsFirstTime (λ now. (tp now ⊎ etp now) ⊎ sending now)) (sym c.earlier.ensures) (first_either (λ now. tp now ⊎ etp now) sending _ _ receiving c.overdue_from-3.ensures))
