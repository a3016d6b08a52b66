use Rattle.std.proofs.Common.{None, ap, sym, refl, ◌∙◌}
use Rattle.vt_transport.specs.Senders.{SenderState, unanswered}
use Rattle.vt_transport.proofs.SenderAnswers.{answers_as, removed_answers, ended_message}
use Rattle.vt_can.proofs.lemmas.transport.ByAddress.{same_sessions}
use Rattle.vt_transport.proofs.sender.Sender.end_of_message.Goals as goal

pub returns : goal.returns
returns c =
    answers_as _ _ _ (unanswered None) _ _ (ended_message c.args.self.now.own_address c.args.to 0 c.args.pgn _ (sym c.sends.ensures ∙ c.if-not-sends.false))
    (removed_answers _ _ _ c.self.inside.sessions.sessions _ _ (sym (ap (λ (s : SenderState). s.sessions) c.self.view_is)) (ap (λ (s : SenderState). s.own_address) c.self.view_is) (same_sessions c.remove.ensures) refl c.new-2.ensures)
