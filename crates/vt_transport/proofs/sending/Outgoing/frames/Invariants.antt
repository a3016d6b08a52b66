use Rattle.std.proofs.Common.{◌≡◌, map}
use Rattle.vt_transport.specs.Wire.{packet_frame}
use Rattle.vt_transport.specs.Senders.{numbers_from}
use Rattle.vt_transport.proofs.sending.Outgoing.frames.Given as goal

abbrev pub invariant-loop-sent : goal.invariant-loop-sent
invariant-loop-sent l = l.frames.items ≡ map (packet_frame l.own_address l.to l.self.bytes) (numbers_from l.next l.sent)
