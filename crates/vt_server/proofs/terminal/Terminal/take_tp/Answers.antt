use Rattle.std.proofs.Common.{◌≡◌, ◌++◌, false, is_some, sym, ap, ◌∙◌}
use Rattle.std.specs.FinMap as finite
use Rattle.std.specs.Option.{option_to_list}
use Rattle.vt_can.specs.frames.Frame.{source_of}
use Rattle.vt_node.specs.Nodes.{NodeState}
use Rattle.vt_server.specs.Outputs.{frames_of}
use Rattle.vt_server.specs.States.{state_of}
use Rattle.vt_server.proofs.lemmas.message.MessageCalls.{tp-takes-alone}
use Rattle.vt_server.proofs.terminal.Terminal.take_tp.Goals as goal

pub returns-clause-takes : goal.returns-clause-takes
returns-clause-takes c =
    let t = c.args.self.now in
    let frame = c.args.frame.now in
    let before = c.args.outputs.now.items in
    let received = c.receive_tp in
    let none : is_some (finite.get received.new.self.sending (source_of frame)) ≡ false =
    ap (λ (n : NodeState). is_some (finite.get n.sending (source_of frame))) received.ensures.rest
    ∙ ap (λ a. is_some (finite.get t.node.sending a)) (sym c.source-source.ensures)
    ∙ sym c.if-is_sending.ensures in
    tp-takes-alone t frame received.result received.new.self received.ensures.rest received.ensures.taken none
    (state_of c.take_whole-reply.new.self) c.source-source.result c.parts_of-reply.result.1 c.take_whole-reply.result before c.send_reply-2.new.outputs.items c.source-source.ensures
    c.parts_of-reply.ensures.message c.take_whole-reply.ensures.handles
    (c.send_reply-2.ensures.items
    ∙ ap (λ l. l ++ frames_of (option_to_list c.take_whole-reply.result)) (c.send_reply.ensures.items ∙ ap (λ l. before ++ frames_of l) c.parts_of-reply.ensures.reply))
