use Rattle.std.proofs.Common.{◌≡◌, cond, true, false, Some, None, ap, sym, ◌∙◌}
use Rattle.vt_can.specs.declared.transport.sessions.Timed.{Timed}
use Rattle.vt_transport.specs.declared.messages.Opening.{Opening}
use Rattle.vt_transport.specs.SessionState.{SessionState}
use Rattle.vt_transport.specs.Messages.{opens}
use Rattle.vt_transport.specs.Protocol.{protocol}
use Rattle.vt_can.specs.transport.Receivers.{ReceiverState}
use Rattle.vt_can.proofs.lemmas.transport.ByAddress.{same_sessions, removed_others, put_others}
use Rattle.vt_can.proofs.lemmas.transport.CallsAsSteps.{removed_makes_step, put_makes_step, replied}
use Rattle.vt_transport.proofs.receiver.Receiver.open.Goals as goal

refused : (o : Opening) (timed : Timed SessionState) → opens o ≡ false → cond (opens o) (Some timed) None ≡ None
refused o timed no_opening = ap (λ b. cond b (Some timed) None) no_opening

accepted : (o : Opening) (timed : Timed SessionState) → opens o ≡ true → cond (opens o) (Some timed) None ≡ Some timed
accepted o timed opening = ap (λ b. cond b (Some timed) None) opening

pub returns-then-not-opens-clause-step : goal.returns-then-not-opens-clause-step
returns-then-not-opens-clause-step c =
    removed_makes_step protocol _ _ _ _ _ _ (ap (λ (r : ReceiverState SessionState). r.own_address) c.self.view_is) (same_sessions c.remove.ensures) (refused c.args.opening _ (sym c.if-not-opens.ensures))
    (replied protocol _ _ _ _ _ _ c.answered.ensures (ap (λ (r : ReceiverState SessionState). r.own_address) c.self.view_is) c.first_reply.ensures)

pub returns-then-not-opens-clause-others : goal.returns-then-not-opens-clause-others
returns-then-not-opens-clause-others c =
    removed_others _ _ _ c.self.inside.sessions.sessions (sym (ap (λ (r : ReceiverState SessionState). r.sessions) c.self.view_is)) (same_sessions c.remove.ensures)

pub returns-clause-step : goal.returns-clause-step
returns-clause-step c =
    put_makes_step protocol _ _ _ _ c.allocate.new.self.sessions _ _ (ap (λ (r : ReceiverState SessionState). r.own_address) c.self.view_is) (same_sessions c.put.ensures) (accepted c.args.opening _ (sym c.if-not-opens.ensures) ∙ ap Some (ap (λ (k : SessionState). record { last = c.args.now; session = k }) (sym c.new-2.ensures)))
    (replied protocol _ _ _ _ _ _ c.answered-2.ensures (ap (λ (r : ReceiverState SessionState). r.own_address) c.self.view_is) c.first_reply-2.ensures)

pub returns-clause-others : goal.returns-clause-others
returns-clause-others c =
    put_others _ _ _ _ c.allocate.new.self.sessions (sym (ap (λ (r : ReceiverState SessionState). r.sessions) c.self.view_is) ∙ sym (same_sessions c.in_ok-allocate.ensures.ok)) (same_sessions c.put.ensures)
