use lib.Pointwise.{pointwise}
use Rattle.std.proofs.Common.{◌≡◌, ℕ, List, drop, Option, Some, None, nat_eq, true≢false, refl, sym, ap, subst, ◌∙◌}
use Rattle.vt_can.specs.declared.frames.frame.Frame.{Frame}
use Rattle.vt_server.specs.frame.FrameContracts.{HandlesMessage, FitsOneFrame}
use Rattle.vt_node.specs.Messages.{message_to}
use Rattle.vt_server.specs.state.AddressStates.{SetPool, with_piece}
use Rattle.vt_server.specs.States.{state_of}
use Rattle.vt_node.specs.AddressFunctions.{with_at}
use Rattle.vt_kinds.specs.Ids.{null_id}
use Rattle.vt_server.specs.message.Verdicts.{after_verdict, end_of_pool}
use Rattle.vt_server.specs.state.PoolTables.{content_of, spare_of}
use Rattle.vt_server.proofs.lemmas.message.EffectsAndReplies.{answers-none}
use Rattle.vt_server.proofs.lemmas.frame.FrameEffect.{any_verdict}
use Rattle.vt_server.proofs.lemmas.shown.SameScreen.{end-same, same-elsewhere, same-pool}
use Rattle.vt_server.proofs.lemmas.message.MessageCalls.{contents-state, piece-answered, end-answered, other-answered}
use Rattle.vt_server.proofs.terminal.Terminal.answer.Goals as goal
use Rattle.vt_server.proofs.terminal.Terminal.answer.Goals.{then-eq, else-eq}
use Rattle.vt_effects.proofs.lemmas.objects.EntryChanges.{either_false}

pub returns-then-not-registered-clause-answers : goal.returns-then-not-registered-clause-answers
returns-then-not-registered-clause-answers c = answers-none (state_of c.args.self.now) c.args.source c.args.bytes.now any_verdict c.if-not-registered.ensures

pub returns-in_err-reply-in-Nothing-clause-answers : goal.returns-in_err-reply-in-Nothing-clause-answers
returns-in_err-reply-in-Nothing-clause-answers c =
    let t = c.args.self.now in
    let a = c.args.source in
    let some = c.if-not-registered.ensures in
    let none : None ≡ c.from_residual.result = cc in
    subst (λ (r : Option Frame). HandlesMessage (state_of t) a c.args.bytes.now r (state_of c.reply.new.self)) none
    (other-answered (state_of t) a c.args.bytes.now some (state_of c.reply.new.self) None
    (subst (FitsOneFrame (content_of t.contents a) (spare_of t.contents a) c.args.bytes.now) c.in-Nothing.is (c.requires (sym some)))
    c.in_err-reply-in-Nothing.ensures.replies)

pub returns-in_ok-reply-in-Nothing-clause-answers : goal.returns-in_ok-reply-in-Nothing-clause-answers
returns-in_ok-reply-in-Nothing-clause-answers c =
    let t = c.args.self.now in
    let a = c.args.source in
    let some = c.if-not-registered.ensures in
    subst (λ (f : Frame). HandlesMessage (state_of t) a c.args.bytes.now (Some f) (state_of c.reply.new.self))
    (ap (λ own. message_to own a c.in_ok-reply-in-Nothing.reply) (sym c.own-own.ensures) ∙ sym c.message_to.ensures)
    (other-answered (state_of t) a c.args.bytes.now some (state_of c.reply.new.self) (Some c.in_ok-reply-in-Nothing.reply)
    (subst (FitsOneFrame (content_of t.contents a) (spare_of t.contents a) c.args.bytes.now) c.in-Nothing.is (c.requires (sym some)))
    c.in_ok-reply-in-Nothing.ensures.replies)

pub returns-in-Piece-clause-answers : goal.returns-in-Piece-clause-answers
returns-in-Piece-clause-answers c =
    let t = c.args.self.now in
    let a = c.args.source in
    let some = c.if-not-registered.ensures in
    let ready = subst (FitsOneFrame (content_of t.contents a) (spare_of t.contents a) c.args.bytes.now) c.in-Piece.is (c.requires (sym some)) in
    piece-answered (state_of t) a c.args.bytes.now some (state_of (record t { contents = c.feed.new.self })) ready.0
    (contents-state t c.feed.new.self a (with_piece (content_of t.contents a) (drop 1 c.args.bytes.now))
    (c.feed.ensures ∙ ap (λ (b : List ℕ). with_at a (with_piece (content_of t.contents a) (drop 1 b)) (content_of t.contents)) ready.1))

pub returns-after-eq-clause-answers : goal.returns-after-eq-clause-answers
returns-after-eq-clause-answers c =
    let t = c.args.self.now in
    let a = c.args.source in
    let some = c.if-not-registered.ensures in
    let ready = subst (FitsOneFrame (content_of t.contents a) (spare_of t.contents a) c.args.bytes.now) c.in-End.is (c.requires (sym some)) in
    subst (λ (f : Frame). HandlesMessage (state_of t) a c.args.bytes.now (Some f) (state_of (record t { contents = c.end-reply.new.self })))
    (ap (λ own. message_to own a c.end-reply.result) (sym c.own-own.ensures) ∙ sym c.message_to-in-End.ensures)
    (end-answered (state_of t) a c.args.bytes.now some (state_of (record t { contents = c.end-reply.new.self })) c.in-End.judgement c.end-reply.result
    (content_of c.end-reply.new.self) ready.0 c.end-reply.ensures
    (contents-state t c.end-reply.new.self a (after_verdict (content_of t.contents a) c.end-reply.ensures.verdict) c.end-reply.ensures.content))

pub returns-in-Piece-clause-tells : goal.returns-in-Piece-clause-tells
returns-in-Piece-clause-tells c none =
    let t = c.args.self.now in
    let a = c.args.source in
    (none, same-pool t c.feed.new.self a _ c.feed.ensures refl)

pub returns-after-eq-clause-tells : goal.returns-after-eq-clause-tells
returns-after-eq-clause-tells c none =
    let t = c.args.self.now in
    let a = c.args.source in
    let ended-by = c.end-reply.ensures in
    let left : SetPool = after_verdict (content_of t.contents a) ended-by.verdict in
    let unset = either_false t.redraws c.if-eq.self none in (
      unset.0,
      elim c.if-eq.branch [
        | then-eq w ↦ same-elsewhere t c.end-reply.new.self a left ended-by.content (sym w.eq-then-eq.ensures ∙ sym w.self-is ∙ unset.1)
        | else-eq w ↦
            same-pool t c.end-reply.new.self a left ended-by.content
            (end-same (content_of t.contents a) ended-by.verdict
            (λ h. true≢false
            (sym (ap (λ r. pointwise nat_eq r (end_of_pool 0 null_id null_id 0)) (ended-by.reply_is ∙ h)) ∙ sym c.eq.ensures ∙ w.if-eq.false)))
      ],
    )
