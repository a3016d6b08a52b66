use Rattle.std.proofs.Common.{ℕ, ◌+◌, List, [], ◌∷◌, ◌++◌, length, ap, ap₂, sym, ◌∙◌, arith, lit<}
use Rattle.vt_can.specs.declared.frames.frame.Frame.{Frame}
use Rattle.vt_can.specs.Assigned.{TP_DT}
use Rattle.vt_can.specs.frames.Frame.{frame_of}
use Rattle.vt_transport.specs.Wire.{packet_frame}
use Rattle.vt_transport.proofs.Packets.{numbers_from-more, length-numbers_from}
use Rattle.vt_transport.proofs.sending.Outgoing.frames.Goals as goal

pub push-requires : goal.push-requires
push-requires c =
    let sent = ap length c.loop-sent.invariant ∙ length-numbers_from (packet_frame c.args.own_address c.args.to c.args.self.now.bytes) c.args.next c.loop-sent.sent in
    (lit< tt, omega (arith, sent))

pub loop-sent-preserved : goal.loop-sent-preserved
loop-sent-preserved c =
    c.push.ensures.items
    ∙ ap₂ (λ (xs : List Frame) (x : Frame). xs ++ x ∷ []) c.loop-sent.invariant
    (c.data_frame.ensures ∙ ap (λ (bytes : List ℕ). frame_of TP_DT c.args.own_address c.args.to ((c.args.next + c.loop-sent.sent) ∷ bytes)) c.packet.ensures)
    ∙ sym (numbers_from-more (packet_frame c.args.own_address c.args.to c.args.self.now.bytes) c.args.next c.loop-sent.sent)
