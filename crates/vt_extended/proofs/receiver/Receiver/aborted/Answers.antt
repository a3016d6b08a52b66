use Rattle.std.proofs.Common.{ap, sym, refl}
use Rattle.vt_can.specs.transport.Receivers.{ReceiverState}
use Rattle.vt_can.proofs.lemmas.transport.ByAddress.{same_sessions, removed_others}
use Rattle.vt_extended.specs.SessionState.{SessionState}
use Rattle.vt_extended.specs.Protocol.{protocol}
use Rattle.vt_can.proofs.lemmas.transport.CallsAsSteps.{removed_makes_step}
use Rattle.vt_extended.proofs.receiver.Receiver.aborted.Goals as goal

pub returns-clause-step : goal.returns-clause-step
returns-clause-step c =
    removed_makes_step protocol _ _ _ _ _ _ (ap (λ (r : ReceiverState SessionState). r.own_address) c.self.view_is) (same_sessions c.remove.ensures) refl refl

pub returns-clause-others : goal.returns-clause-others
returns-clause-others c =
    removed_others _ _ _ c.self.inside.sessions.sessions (sym (ap (λ (r : ReceiverState SessionState). r.sessions) c.self.view_is)) (same_sessions c.remove.ensures)
