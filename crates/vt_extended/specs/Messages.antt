-- The ETP messages of one source by its whole history (ISO 11783-3; docs/PROFILE.md, "The ETP receiver").
-- Every list of session events, groups and packets has the latest first.
use Rattle.std.specs.Prelude.{◌≡◌, ◌≤◌, ℕ, ◌+◌, ◌-◌, ◌/◌, Bool, nat_le, nat_lt, ◌==◌, ◌&&◌, if◌then◌else◌, min, Option, Some, None, List, [], ◌∷◌, ◌++◌, length}
use Rattle.vt_can.specs.declared.transport.wire.Reason.{Reason}
use Rattle.vt_can.specs.declared.transport.wire.Reason.TheVariants.{TooLarge, Disorder}
use Rattle.vt_can.specs.transport.Messages.{Message, joined}
use Rattle.vt_can.specs.transport.Histories as histories
use Rattle.vt_can.specs.transport.Histories.{Spelling, Came, TimedOut}
use Rattle.vt_extended.specs.declared.messages.Opening.{Opening}
use Rattle.vt_extended.specs.declared.messages.Part.{Part}
use Rattle.vt_extended.specs.declared.messages.Part.TheVariants.{Offset, Packet}
use Rattle.vt_extended.specs.declared.messages.EtpFrame.{EtpFrame}
use Rattle.vt_extended.specs.declared.messages.EtpFrame.TheVariants as etp
use Rattle.vt_extended.specs.declared.messages.Reply.{Reply}
use Rattle.vt_extended.specs.declared.messages.Reply.TheVariants.{ClearToSend, End, Abort}

-- A frame of the extended transport protocol came from the source, or its session was aborted for silence.
abbrev pub SessionEvent : Type 0
SessionEvent = histories.SessionEvent EtpFrame

-- 9 to 1048576 bytes
abbrev pub opens : Opening → Bool
opens o = nat_le 9 o.size && nat_le o.size 1048576

-- the number of packets of a message, seven bytes each
abbrev pub packet_count_of : Opening → ℕ
packet_count_of o = (o.size + 6) / 7

-- A group: the number of packets announced by a DPO, and the packets received after it.
pub data Group : Type 0 where
  Announced : ℕ → List (List ℕ) → Group

abbrev pub received : List Group → ℕ
received [] = 0
received (Announced count packets ∷ groups) = received groups + length packets

-- the number of packets received up to the end of the last complete group
abbrev pub full : List Group → ℕ
full [] = 0
full (Announced count packets ∷ groups) =
    if length packets == count then received groups + length packets else full groups

-- the last packet opened by the CTS after `count` packets
abbrev pub edge_after : Opening → ℕ → ℕ
edge_after o count = min (packet_count_of o) (count + 255)

-- the last packet that a DPO may announce after these groups
abbrev pub edge : Opening → List Group → ℕ
edge o groups = edge_after o (full groups)

-- Each group announces open packets, and has received no more packets than it announced.
abbrev pub AreSound : Opening → List Group → Type 0
AreSound o [] = Unit {0}
AreSound o (Announced count packets ∷ groups) =
    (1 ≤ count) × (received groups + count ≤ edge o groups) × (length packets ≤ count) × AreSound o groups

-- packets with the sequence numbers 1, 2, 3 and so on
abbrev pub numbered : List (List ℕ) → List Part
numbered [] = []
numbered (packet ∷ packets) = Packet (length packets + 1) packet ∷ numbered packets

-- the DPOs and DTs of groups: the offset of a DPO is the number of packets before it
abbrev pub parts_of : List Group → List Part
parts_of [] = []
parts_of (Announced count packets ∷ groups) = numbered packets ++ Offset count (received groups) ∷ parts_of groups

abbrev pub bytes_of : List Group → List ℕ
bytes_of [] = []
bytes_of (Announced count packets ∷ groups) = bytes_of groups ++ joined packets

-- a session event other than an RTS, an abort or a timeout
abbrev pub IsQuiet : SessionEvent → Type 0
IsQuiet TimedOut = ⊥
IsQuiet (Came (etp.Rts o)) = ⊥
IsQuiet (Came etp.Aborted) = ⊥
IsQuiet (Came _) = Unit {0}

-- the DPOs and DTs received
abbrev pub parts_in : List SessionEvent → List Part
parts_in [] = []
parts_in (TimedOut ∷ hs) = parts_in hs
parts_in (Came (etp.Part part) ∷ hs) = part ∷ parts_in hs
parts_in (Came _ ∷ hs) = parts_in hs

-- the DPOs and DTs received after an RTS are those of sound groups
pub record BringsGroups (o : Opening) (later : List SessionEvent) (groups : List Group) : Type 0 where
  pub in_order : parts_in later ≡ parts_of groups
  pub sound : AreSound o groups

-- The encoding of messages: an RTS, then the DPOs and DTs of groups.
abbrev pub spelling : Spelling EtpFrame Opening (List Group)
spelling = record {
  request = λ o. etp.Rts o;
  opens = opens;
  size = λ o. o.size;
  pgn = λ o. o.pgn;
  total = packet_count_of;
  IsQuiet = IsQuiet;
  Brings = BringsGroups;
  count = received;
  bytes = bytes_of;
  IsPacket = λ x. (number : ℕ) × (bytes : List ℕ) × (x ≡ Came (etp.Part (Packet number bytes)));
}

-- a session is open, with packets still to come
abbrev pub IsOpen : List SessionEvent → Opening → List Group → Type 0
IsOpen = histories.IsOpen spelling

-- a session event is the last packet of a message
abbrev pub IsWhole : List SessionEvent → SessionEvent → Message → Type 0
IsWhole = histories.IsWhole spelling

-- the CTS after `count` packets, for at most 255 of the remaining packets
abbrev pub clear_to_send : Opening → ℕ → Reply
clear_to_send o count = ClearToSend (min 255 (packet_count_of o - count)) (count + 1) o.pgn

-- the reason for the refusal of an RTS
abbrev pub refusal : Opening → Reason
refusal o = if nat_lt o.size 9 then Disorder else TooLarge

-- the reply to an RTS
abbrev pub first_reply : Opening → Reply
first_reply o = if opens o then clear_to_send o 0 else Abort (refusal o) o.pgn

-- the reply to packet j in sequence: the end of message, the next CTS if its group is complete, or none
abbrev pub reply_to : Opening → ℕ → Bool → Option Reply
reply_to o j whole =
    if j == packet_count_of o then Some (End o.size o.pgn)
    else if whole then Some (clear_to_send o j)
    else None

-- the reply to a DPO, which must announce open packets, from the next one on
abbrev pub offset_reply : Opening → List Group → ℕ → ℕ → Option Reply
offset_reply o groups count offset =
    if nat_le 1 count && nat_le (received groups + count) (edge o groups) && offset == received groups
    then None
    else Some (Abort Disorder o.pgn)

-- the reply to a DT, which must be the next packet of the last group
abbrev pub packet_reply : Opening → List Group → ℕ → Option Reply
packet_reply o [] number = Some (Abort Disorder o.pgn)
packet_reply o (Announced count packets ∷ groups) number =
    if nat_lt (length packets) count && number == length packets + 1
    then reply_to o (received groups + number) (number == count)
    else Some (Abort Disorder o.pgn)

abbrev pub part_reply : Opening → List Group → Part → Option Reply
part_reply o groups (Offset count offset) = offset_reply o groups count offset
part_reply o groups (Packet number bytes) = packet_reply o groups number

-- the reply to session event x after history hs
abbrev pub IsAnswered : List SessionEvent → SessionEvent → Option Reply → Type 0
IsAnswered hs TimedOut reply = reply ≡ None
IsAnswered hs (Came (etp.Rts o)) reply = reply ≡ Some (first_reply o)
IsAnswered hs (Came (etp.Part part)) reply =
    ((o : Opening) (groups : List Group) → IsOpen hs o groups → reply ≡ part_reply o groups part)
    × (((o : Opening) (groups : List Group) → IsOpen hs o groups → ⊥) → reply ≡ None)
IsAnswered hs (Came _) reply = reply ≡ None
