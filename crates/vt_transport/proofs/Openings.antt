-- An RTS that opens a TP session has the number of packets of its size, which is at least one.
use Rattle.std.proofs.Common.{◌≡◌, ◌+◌, ◌/◌, ◌≤◌, ◌<◌, true, eqb, leb, arith}
use Rattle.std.proofs.lemmas.Bool.{eqb-true, leb-true}
use Rattle.vt_can.proofs.lemmas.transport.Booleans.{all_of}
use Rattle.vt_transport.specs.declared.messages.Opening.{Opening}
use Rattle.vt_transport.specs.Messages.{opens}

pub opens_packets : (o : Opening) → opens o ≡ true → o.packets ≡ (o.size + 6) / 7
opens_packets o opened = eqb-true _ _ (all_of (leb 9 o.size) (leb o.size 1785) (eqb o.packets ((o.size + 6) / 7)) opened).third

pub opens_size : (o : Opening) → opens o ≡ true → 9 ≤ o.size
opens_size o opened = leb-true _ _ (all_of (leb 9 o.size) (leb o.size 1785) (eqb o.packets ((o.size + 6) / 7)) opened).first

pub opened_packets : (o : Opening) → opens o ≡ true → 0 < o.packets
opened_packets o opened =
    let p = opens_packets o opened in
    let n = opens_size o opened in
    omega arith
