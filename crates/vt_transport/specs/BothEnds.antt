-- The frames of a sender as session events of the receiver. Every list of session events has the latest first.
use Rattle.std.specs.Prelude.{◌≡◌, ◌<◌, ℕ, zero, suc, ◌-◌, ◌^◌, true, Some, List, [], ◌∷◌, length}
use Rattle.vt_can.specs.Assigned.{NO_LIMIT}
use Rattle.vt_can.specs.transport.Messages.{Message}
use Rattle.vt_transport.specs.declared.messages.Opening.{Opening}
use Rattle.vt_transport.specs.declared.messages.TpFrame.TheVariants.{Rts, Data}
use Rattle.vt_can.specs.transport.Histories.{Came}
use Rattle.vt_transport.specs.Messages.{SessionEvent, IsWhole}
use Rattle.vt_transport.specs.Wire.{tp_frame, rts_frame, packet_bytes, packet_frame}
use Rattle.vt_transport.specs.Senders.{packet_count_of, has_size}

-- the fields of the RTS of a message
abbrev pub opening_of : Message → Opening
opening_of message = record { size = length message.bytes; packets = packet_count_of message; most = NO_LIMIT; pgn = message.pgn }

abbrev pub packet_of : Message → ℕ → SessionEvent
packet_of message j = Came (Data j (packet_bytes message.bytes j))

-- the RTS of a message, and then its packets from 1 up to a count
abbrev pub begun : Message → ℕ → List SessionEvent
begun message zero = Came (Rts (opening_of message)) ∷ []
begun message (suc count) = packet_of message (suc count) ∷ begun message count

-- The frames of a message decode to its RTS and its packets for the other node, and the last packet makes the
-- message whole there.
pub record IsReceived (own_address to : ℕ) (message : Message) : Type 0 where
  pub request : tp_frame to (rts_frame own_address to (length message.bytes) message.pgn) ≡ Some (Rts (opening_of message))
  pub packets : (j : ℕ) → tp_frame to (packet_frame own_address to message.bytes j) ≡ Some (Data j (packet_bytes message.bytes j))
  pub whole : IsWhole (begun message (packet_count_of message - 1)) (packet_of message (packet_count_of message)) message

abbrev pub SentIsReceived : Type 0
SentIsReceived = (own_address to : ℕ) (message : Message) → own_address < 2 ^ 8 → to < 2 ^ 8 → message.pgn < 2 ^ 24 → has_size message.bytes ≡ true
    → IsReceived own_address to message
