-- The TP messages of one source by its whole history (ISO 11783-3; docs/PROFILE.md, "The TP receiver").
-- Every list of session events and of packets has the latest first.
use Rattle.std.specs.Prelude.{◌≡◌, ℕ, ◌+◌, ◌-◌, ◌/◌, ◌%◌, Bool, nat_le, ◌==◌, ◌&&◌, if◌then◌else◌, min, Option, Some, None, List, [], ◌∷◌, length}
use Rattle.vt_can.specs.declared.transport.wire.Reason.TheVariants.{Disorder}
use Rattle.vt_can.specs.Assigned.{VT_TO_ECU}
use Rattle.vt_can.specs.transport.Messages.{Message, joined}
use Rattle.vt_can.specs.transport.Histories as histories
use Rattle.vt_can.specs.transport.Histories.{Spelling, Came, TimedOut}
use Rattle.vt_transport.specs.declared.messages.Opening.{Opening}
use Rattle.vt_transport.specs.declared.messages.TpFrame.{TpFrame}
use Rattle.vt_transport.specs.declared.messages.TpFrame.TheVariants.{Rts, Aborted, Data}
use Rattle.vt_transport.specs.declared.messages.Reply.{Reply}
use Rattle.vt_transport.specs.declared.messages.Reply.TheVariants.{ClearToSend, End, Abort}

-- A frame of the transport protocol came from the source, or its session was aborted for silence.
abbrev pub SessionEvent : Type 0
SessionEvent = histories.SessionEvent TpFrame

-- 9 to 1785 bytes, in packets of seven
abbrev pub opens : Opening → Bool
opens o = nat_le 9 o.size && nat_le o.size 1785 && o.packets == (o.size + 6) / 7

-- the greatest number of packets of one CTS
abbrev pub allowed : Opening → ℕ
allowed o = if o.most == 0 then 255 else o.most

-- a session event other than an RTS, a timeout or an abort; an abort of VT_TO_ECU is quiet, as one to a sender
abbrev pub IsQuiet : SessionEvent → Type 0
IsQuiet TimedOut = ⊥
IsQuiet (Came (Rts o)) = ⊥
IsQuiet (Came (Aborted pgn)) = pgn ≡ VT_TO_ECU
IsQuiet (Came _) = Unit {0}

-- the packets received, with their sequence numbers
abbrev pub packets_in : List SessionEvent → List (ℕ × List ℕ)
packets_in [] = []
packets_in (TimedOut ∷ hs) = packets_in hs
packets_in (Came (Data number bytes) ∷ hs) = (number, bytes) ∷ packets_in hs
packets_in (Came _ ∷ hs) = packets_in hs

-- packets with the sequence numbers 1, 2, 3 and so on
abbrev pub numbered : List (List ℕ) → List (ℕ × List ℕ)
numbered [] = []
numbered (packet ∷ packets) = (length packets + 1, packet) ∷ numbered packets

-- The encoding of messages: an RTS, then DTs with the sequence numbers of their packets.
abbrev pub spelling : Spelling TpFrame Opening (List (List ℕ))
spelling = record {
  request = λ o. Rts o;
  opens = opens;
  size = λ o. o.size;
  pgn = λ o. o.pgn;
  total = λ o. o.packets;
  IsQuiet = IsQuiet;
  Brings = λ o later packets. packets_in later ≡ numbered packets;
  count = λ packets. length packets;
  bytes = joined;
  IsPacket = λ x. (number : ℕ) × (bytes : List ℕ) × (x ≡ Came (Data number bytes));
}

-- a session is open, with packets still to come
abbrev pub IsOpen : List SessionEvent → Opening → List (List ℕ) → Type 0
IsOpen = histories.IsOpen spelling

-- a session event is the last packet of a message
abbrev pub IsWhole : List SessionEvent → SessionEvent → Message → Type 0
IsWhole = histories.IsWhole spelling

-- the reply to an RTS
abbrev pub first_reply : Opening → Reply
first_reply o =
    if opens o then ClearToSend (min (allowed o) o.packets) 1 o.pgn else Abort Disorder o.pgn

-- the reply to packet j in sequence: the end of message, the next CTS after all packets of the last one, or none
abbrev pub reply_to : Opening → ℕ → Option Reply
reply_to o j =
    if j == o.packets then Some (End o.size o.packets o.pgn)
    else if j % allowed o == 0 then Some (ClearToSend (min (allowed o) (o.packets - j)) (j + 1) o.pgn)
    else None

abbrev pub packet_reply : Opening → ℕ → ℕ → Option Reply
packet_reply o count number =
    if number == count + 1 then reply_to o number else Some (Abort Disorder o.pgn)

-- the reply to session event x after history hs
abbrev pub IsAnswered : List SessionEvent → SessionEvent → Option Reply → Type 0
IsAnswered hs TimedOut reply = reply ≡ None
IsAnswered hs (Came (Rts o)) reply = reply ≡ Some (first_reply o)
IsAnswered hs (Came (Data number bytes)) reply =
    ((o : Opening) (packets : List (List ℕ)) → IsOpen hs o packets → reply ≡ packet_reply o (length packets) number)
    × (((o : Opening) (packets : List (List ℕ)) → IsOpen hs o packets → ⊥) → reply ≡ None)
IsAnswered hs (Came _) reply = reply ≡ None
