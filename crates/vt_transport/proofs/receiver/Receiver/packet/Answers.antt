use Rattle.std.proofs.Common.{ℕ, max, Some, None, ap, sym, subst, refl, ◌∙◌}
use Rattle.vt_can.specs.declared.transport.received.Received.TheVariants.{More, Whole}
use Rattle.vt_can.specs.transport.Protocols.{silent, ended, outcome_of}
use Rattle.vt_can.specs.transport.Receivers.{ReceiverState, AnswersWith}
use Rattle.vt_transport.specs.SessionState.{SessionState}
use Rattle.vt_transport.specs.Protocol.{protocol}
use Rattle.vt_transport.specs.Steps.{after_packet}
use Rattle.vt_transport.specs.Wire.{reply_frame}
use Rattle.vt_can.specs.declared.transport.heard.Heard.TheVariants as heard
use Rattle.vt_can.proofs.lemmas.transport.ByAddress.{same_sessions, removed_others, put_again_others}
use Rattle.vt_can.proofs.lemmas.transport.CallsAsSteps.{removed_makes_step, put_makes_step, replied, makes_step_as, session_removed, none_there}
use Rattle.vt_transport.proofs.receiver.Receiver.packet.Goals as goal

pub returns-in_default-clause-step : goal.returns-in_default-clause-step
returns-in_default-clause-step c =
    makes_step_as protocol _ _ _ (silent None) _ _ (none_there (λ now current. after_packet now current c.args.number c.args.bytes) _ _ _ c.self.inside.sessions.sessions _ (sym (ap (λ (r : ReceiverState SessionState). r.sessions) c.self.view_is)) c.take.ensures.found c.in_default.is refl)
    (removed_makes_step protocol _ _ _ c.self.inside.sessions.sessions _ _ (ap (λ (r : ReceiverState SessionState). r.own_address) c.self.view_is) (same_sessions c.take.ensures.left) refl refl)

pub returns-in_default-clause-others : goal.returns-in_default-clause-others
returns-in_default-clause-others c =
    removed_others _ _ _ c.self.inside.sessions.sessions (sym (ap (λ (r : ReceiverState SessionState). r.sessions) c.self.view_is)) (same_sessions c.take.ensures.left)

pub returns-in-Refused-clause-step : goal.returns-in-Refused-clause-step
returns-in-Refused-clause-step c =
    makes_step_as protocol _ _ _ (ended c.in-Refused.reply) _ _
    (session_removed (λ now current. after_packet now current c.args.number c.args.bytes) _ _ _ c.in-Some.field-0.last c.self.inside.sessions.sessions _ c.in-Some.field-0 _ _ (sym (ap (λ (r : ReceiverState SessionState). r.sessions) c.self.view_is))
    c.take.ensures.found c.in-Some.is refl c.receive.ensures (ap (outcome_of (max c.args.now c.in-Some.field-0.last)) (sym c.in-Refused.is)))
    (removed_makes_step protocol _ _ _ c.self.inside.sessions.sessions _ _ (ap (λ (r : ReceiverState SessionState). r.own_address) c.self.view_is) (same_sessions c.take.ensures.left) refl
    (replied protocol _ _ _ _ _ _ c.answered.ensures (ap (λ (r : ReceiverState SessionState). r.own_address) c.self.view_is) refl))

pub returns-in-Refused-clause-others : goal.returns-in-Refused-clause-others
returns-in-Refused-clause-others c =
    removed_others _ _ _ c.self.inside.sessions.sessions (sym (ap (λ (r : ReceiverState SessionState). r.sessions) c.self.view_is)) (same_sessions c.take.ensures.left)

pub returns-in-More-clause-step : goal.returns-in-More-clause-step
returns-in-More-clause-step c =
    makes_step_as protocol _ _ _ (outcome_of (max c.args.now c.in-Some.field-0.last) (More c.in-More.session c.in-More.reply)) _ _
    (session_removed (λ now current. after_packet now current c.args.number c.args.bytes) _ _ _ c.in-Some.field-0.last c.self.inside.sessions.sessions _ c.in-Some.field-0 _ _ (sym (ap (λ (r : ReceiverState SessionState). r.sessions) c.self.view_is))
    c.take.ensures.found c.in-Some.is refl c.receive.ensures (ap (outcome_of (max c.args.now c.in-Some.field-0.last)) (sym c.in-More.is)))
    (put_makes_step protocol _ _ _ _ c.take.new.self.sessions _ _ (ap (λ (r : ReceiverState SessionState). r.own_address) c.self.view_is) (same_sessions c.put.ensures)
    (ap (λ (l : ℕ). Some (record { last = l; session = c.in-More.session })) (sym c.max.ensures))
    (subst (λ (k : ℕ). AnswersWith protocol k c.args.source c.in-More.reply None c.answered-in-More.result) (ap (λ (r : ReceiverState SessionState). r.own_address) c.self.view_is) c.answered-in-More.ensures))

pub returns-in-More-clause-others : goal.returns-in-More-clause-others
returns-in-More-clause-others c =
    put_again_others _ _ _ _ c.self.inside.sessions.sessions c.take.new.self.sessions (sym (ap (λ (r : ReceiverState SessionState). r.sessions) c.self.view_is)) (same_sessions c.take.ensures.left) (same_sessions c.put.ensures)

pub returns-in-Whole-clause-step : goal.returns-in-Whole-clause-step
returns-in-Whole-clause-step c =
    makes_step_as protocol _ _ _ (outcome_of (max c.args.now c.in-Some.field-0.last) (Whole c.in-Whole.pgn c.in-Whole.bytes c.in-Whole.reply)) _ _
    (session_removed (λ now current. after_packet now current c.args.number c.args.bytes) _ _ _ c.in-Some.field-0.last c.self.inside.sessions.sessions _ c.in-Some.field-0 _ _ (sym (ap (λ (r : ReceiverState SessionState). r.sessions) c.self.view_is))
    c.take.ensures.found c.in-Some.is refl c.receive.ensures (ap (outcome_of (max c.args.now c.in-Some.field-0.last)) (sym c.in-Whole.is)))
    (removed_makes_step protocol _ _ _ c.self.inside.sessions.sessions _ _ (ap (λ (r : ReceiverState SessionState). r.own_address) c.self.view_is) (same_sessions c.take.ensures.left) refl
    (ap (heard.Message c.args.source c.in-Whole.pgn c.in-Whole.bytes)
    (c.reply_frame.ensures ∙ ap (λ (k : ℕ). reply_frame k c.args.source c.in-Whole.reply) (ap (λ (r : ReceiverState SessionState). r.own_address) c.self.view_is))))

pub returns-in-Whole-clause-others : goal.returns-in-Whole-clause-others
returns-in-Whole-clause-others c =
    removed_others _ _ _ c.self.inside.sessions.sessions (sym (ap (λ (r : ReceiverState SessionState). r.sessions) c.self.view_is)) (same_sessions c.take.ensures.left)
