use Rattle.std.proofs.Common.{◌≡◌, ℕ, max, Some, ap, sym, refl, ◌∙◌}
use Rattle.vt_can.specs.declared.transport.sessions.Timed.{Timed}
use Rattle.vt_can.specs.transport.Messages.{Message}
use Rattle.vt_transport.specs.Senders.{SenderState, unanswered, refreshed}
use Rattle.vt_transport.proofs.SenderAnswers.{answers_removed, answers_absent, removed_answers, put_answers, of_another_group, waiting, packet_zero, past_the_last, packets_sent, packets_from, refusal, refusal_frames, sent_frames, count_below, count_within}
use Rattle.vt_can.proofs.lemmas.transport.ByAddress.{same_sessions}
use Rattle.vt_transport.proofs.sender.Sender.clear_to_send.Goals as goal
use Rattle.vt_transport.proofs.sender.Sender.clear_to_send.Goals.{then-next-eq0-via-then-next-eq0, then-next-eq0-via-else-next-eq0+then-next-packets}

refreshed_is : (now later : ℕ) (current : Timed Message) → later ≡ max now current.last → refreshed now current ≡ Some (record { last = later; session = current.session })
refreshed_is now later current is = ap (λ (l : ℕ). Some (record { last = l; session = current.session })) (sym is)

pub returns-in_default : goal.returns-in_default
returns-in_default c =
    answers_absent _ _ _ _ _ c.self.inside.sessions.sessions _ _ (sym (ap (λ (s : SenderState). s.sessions) c.self.view_is)) c.take.ensures.found c.in_default.is
    (removed_answers _ _ _ c.self.inside.sessions.sessions _ _ (sym (ap (λ (s : SenderState). s.sessions) c.self.view_is)) (ap (λ (s : SenderState). s.own_address) c.self.view_is) (same_sessions c.take.ensures.left) refl c.new.ensures)

pub returns-then-pgn : goal.returns-then-pgn
returns-then-pgn c =
    answers_removed _ _ _ _ _ c.self.inside.sessions.sessions _ c.in-Some.field-0 (unanswered (Some c.in-Some.field-0)) _ (sym (ap (λ (s : SenderState). s.sessions) c.self.view_is)) c.take.ensures.found c.in-Some.is
    (of_another_group c.args.self.now.own_address c.args.to c.args.now c.in-Some.field-0 c.args.count c.args.next c.args.pgn (λ same. c.if-pgn.true (same ∙ sym c.pgn.ensures)))
    (put_answers _ _ _ _ c.self.inside.sessions.sessions c.take.new.self.sessions _ _ (sym (ap (λ (s : SenderState). s.sessions) c.self.view_is)) (same_sessions c.take.ensures.left) (ap (λ (s : SenderState). s.own_address) c.self.view_is) (same_sessions c.put.ensures) refl c.new-then-pgn.ensures)

pub returns-then-count-eq0 : goal.returns-then-count-eq0
returns-then-count-eq0 c =
    answers_removed _ _ _ _ _ c.self.inside.sessions.sessions _ c.in-Some.field-0 (unanswered (refreshed c.args.now c.in-Some.field-0)) _ (sym (ap (λ (s : SenderState). s.sessions) c.self.view_is)) c.take.ensures.found c.in-Some.is
    (waiting c.args.self.now.own_address c.args.to c.args.now c.in-Some.field-0 c.args.count c.args.next c.args.pgn (c.if-pgn.false ∙ c.pgn.ensures) c.if-count-eq0.true)
    (put_answers _ _ _ _ c.self.inside.sessions.sessions c.take.new.self.sessions _ _ (sym (ap (λ (s : SenderState). s.sessions) c.self.view_is)) (same_sessions c.take.ensures.left) (ap (λ (s : SenderState). s.own_address) c.self.view_is) (same_sessions c.put-then-count-eq0.ensures) (refreshed_is _ _ _ c.max.ensures) c.new-then-count-eq0.ensures)

pub returns-then-next-eq0 : goal.returns-then-next-eq0
returns-then-next-eq0 c =
    answers_removed _ _ _ _ _ c.self.inside.sessions.sessions _ c.in-Some.field-0 (refusal c.args.self.now.own_address c.args.to c.in-Some.field-0) _ (sym (ap (λ (s : SenderState). s.sessions) c.self.view_is)) c.take.ensures.found c.in-Some.is
    (elim c.then-next-eq0.branch [
      | then-next-eq0-via-then-next-eq0 w ↦ packet_zero c.args.self.now.own_address c.args.to c.args.now c.in-Some.field-0 c.args.count c.args.next c.args.pgn (c.if-pgn.false ∙ c.pgn.ensures) c.if-count-eq0.false w.if-next-eq0.true
      | then-next-eq0-via-else-next-eq0+then-next-packets w ↦ past_the_last c.args.self.now.own_address c.args.to c.args.now c.in-Some.field-0 c.args.count c.args.next c.args.pgn (c.if-pgn.false ∙ c.pgn.ensures) c.if-count-eq0.false w.if-next-eq0.false
          (count_below _ _ _ w.packets.ensures w.if-next-packets.true)
    ])
    (removed_answers _ _ _ c.self.inside.sessions.sessions _ _ (sym (ap (λ (s : SenderState). s.sessions) c.self.view_is)) (ap (λ (s : SenderState). s.own_address) c.self.view_is) (same_sessions c.take.ensures.left) refl
    (refusal_frames _ _ _ _ _ _ _ c.one.ensures c.reply_frame.ensures (ap (λ (s : SenderState). s.own_address) c.self.view_is) (c.if-pgn.false ∙ c.pgn.ensures)))

pub returns : goal.returns
returns c =
    answers_removed _ _ _ _ _ c.self.inside.sessions.sessions _ c.in-Some.field-0 (packets_from c.args.self.now.own_address c.args.to c.args.now c.in-Some.field-0 c.args.count c.args.next) _ (sym (ap (λ (s : SenderState). s.sessions) c.self.view_is)) c.take.ensures.found c.in-Some.is
    (packets_sent c.args.self.now.own_address c.args.to c.args.now c.in-Some.field-0 c.args.count c.args.next c.args.pgn (c.if-pgn.false ∙ c.pgn.ensures) c.if-count-eq0.false c.if-next-eq0.false (count_within _ _ _ c.packets.ensures c.if-next-packets.false))
    (put_answers _ _ _ _ c.self.inside.sessions.sessions c.take.new.self.sessions _ _ (sym (ap (λ (s : SenderState). s.sessions) c.self.view_is)) (same_sessions c.take.ensures.left) (ap (λ (s : SenderState). s.own_address) c.self.view_is) (same_sessions c.put-2.ensures) (refreshed_is _ _ _ c.max-2.ensures)
    (sent_frames _ _ c.args.to c.in-Some.field-0.session.bytes _ _ c.frames-frames.ensures (ap (λ (s : SenderState). s.own_address) c.self.view_is)))
