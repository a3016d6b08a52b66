use Rattle.std.proofs.Common.{ap, ◌∙◌}
use Rattle.vt_can.specs.transport.Messages.{Message}
use Rattle.vt_transport.proofs.Packets.{filled_packet}
use Rattle.vt_transport.proofs.sending.Outgoing.packet.Goals as goal

pub returns : goal.returns
returns c =
    filled_packet c.args.self.now.bytes _ c.args.number _ _ _ (c.deref.ensures.value ∙ ap (λ (m : Message). m.bytes) c.self.view_is) c.from.ensures c.min-filled.ensures c.copy_from_slice.ensures.after
