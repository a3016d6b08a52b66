use Rattle.std.proofs.Common.{◌≡◌, ℕ, cond, eqb, Option, None, ap, sym, refl, ne_eqb}
use Rattle.vt_can.specs.Assigned.{VT_TO_ECU}
use Rattle.vt_can.specs.declared.transport.sessions.Timed.{Timed}
use Rattle.vt_transport.specs.SessionState.{SessionState}
use Rattle.vt_transport.specs.Protocol.{protocol}
use Rattle.vt_can.specs.transport.Receivers.{ReceiverState}
use Rattle.vt_can.proofs.lemmas.transport.ByAddress.{same_sessions, removed_others}
use Rattle.vt_can.proofs.lemmas.transport.CallsAsSteps.{removed_makes_step}
use Rattle.vt_transport.proofs.receiver.Receiver.aborted.Goals as goal

not_of_terminal : (pgn : ℕ) (current : Option (Timed SessionState)) → (pgn ≡ VT_TO_ECU → ⊥) → cond (eqb pgn VT_TO_ECU) current None ≡ None
not_of_terminal pgn current other = ap (λ b. cond b current None) (ne_eqb pgn VT_TO_ECU other)

pub returns-clause-step : goal.returns-clause-step
returns-clause-step c =
    removed_makes_step protocol _ _ _ _ _ _ (ap (λ (r : ReceiverState SessionState). r.own_address) c.self.view_is) (same_sessions c.remove.ensures) (not_of_terminal c.args.pgn _ c.if-pgn-eq-VT_TO_ECU.false) refl

pub returns-clause-others : goal.returns-clause-others
returns-clause-others c =
    removed_others _ _ _ c.self.inside.sessions.sessions (sym (ap (λ (r : ReceiverState SessionState). r.sessions) c.self.view_is)) (same_sessions c.remove.ensures)
