use Rattle.std.proofs.Common.{◌++◌, ap, ◌∙◌}
use Rattle.std.specs.Option.{option_to_list}
use Rattle.vt_node.specs.ReceiverResults.{frames_in}
use Rattle.vt_server.specs.Outputs.{frames_of}
use Rattle.vt_server.specs.States.{state_of}
use Rattle.vt_server.proofs.lemmas.message.MessageCalls.{sent-both, tp-takes}
use Rattle.vt_server.proofs.terminal.Terminal.take_tp_as_sender.Goals as goal

pub returns-clause-takes : goal.returns-clause-takes
returns-clause-takes c =
    let before = c.args.outputs.now.items in
    let received = c.receive_tp in
    let answered = c.receive_as_sender in
    tp-takes c.args.self.now c.args.frame.now received.result received.new.self answered.new.self answered.result.items
    received.ensures.rest received.ensures.taken answered.ensures.rest answered.ensures.answered
    (state_of c.take_whole-reply.new.self) c.source-source.result c.parts_of-reply.result.1 c.take_whole-reply.result before c.send_reply-2.new.outputs.items c.source-source.ensures
    c.parts_of-reply.ensures.message c.take_whole-reply.ensures.handles
    (c.send_reply-2.ensures.items
    ∙ ap (λ l. l ++ frames_of (option_to_list c.take_whole-reply.result))
    (c.send_all.ensures.items
    ∙ ap (λ l. l ++ frames_of answered.result.items) (c.send_reply.ensures.items ∙ ap (λ l. before ++ frames_of l) c.parts_of-reply.ensures.reply)
    ∙ sent-both before (frames_in received.result) answered.result.items))
