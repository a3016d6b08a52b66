-- An RTS that opens an ETP session announces at least 9 bytes, in at least one packet.
use Rattle.std.proofs.Common.{◌≡◌, ◌≤◌, ◌<◌, true, leb, arith}
use Rattle.std.proofs.lemmas.Bool.{leb-true}
use Rattle.vt_can.proofs.lemmas.transport.Booleans.{both_of}
use Rattle.vt_extended.specs.declared.messages.Opening.{Opening}
use Rattle.vt_extended.specs.Messages.{opens, packet_count_of}

opens_size : (o : Opening) → opens o ≡ true → 9 ≤ o.size
opens_size o opened = leb-true _ _ (both_of (leb 9 o.size) (leb o.size 1048576) opened).first

pub opened_packets : (o : Opening) → opens o ≡ true → 0 < packet_count_of o
opened_packets o opened = let n = opens_size o opened in omega arith
