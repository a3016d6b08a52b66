-- One step of an ETP receiver on the session of one source.
use Rattle.std.specs.Prelude.{◌≡◌, ℕ, ◌+◌, Bool, nat_le, nat_lt, ◌==◌, ◌&&◌, if◌then◌else◌, max, Option, Some, None, List, [], ◌∷◌, ◌++◌, length, take}
use Rattle.vt_can.specs.declared.transport.sessions.Timed.{Timed}
use Rattle.vt_can.specs.declared.transport.wire.Reason.TheVariants.{Disorder}
use Rattle.vt_can.specs.transport.Protocols as protocols
use Rattle.vt_can.specs.transport.Protocols.{silent, ended}
use Rattle.vt_extended.specs.declared.messages.Opening.{Opening}
use Rattle.vt_extended.specs.declared.messages.Part.{Part}
use Rattle.vt_extended.specs.declared.messages.Part.TheVariants.{Offset, Packet}
use Rattle.vt_extended.specs.declared.messages.EtpFrame.{EtpFrame}
use Rattle.vt_extended.specs.declared.messages.EtpFrame.TheVariants as etp
use Rattle.vt_extended.specs.declared.messages.Reply.{Reply}
use Rattle.vt_extended.specs.declared.messages.Reply.TheVariants.{Abort}
use Rattle.vt_extended.specs.Messages.{Group, Announced, opens, packet_count_of, received, edge_after, edge, bytes_of, first_reply, reply_to}
use Rattle.vt_extended.specs.SessionState.{SessionState}

abbrev pub SessionOutcome : Type 0
SessionOutcome = protocols.SessionOutcome SessionState Reply

-- a session without packets
abbrev pub fresh : Opening → SessionState
fresh o = record { opening = o; bytes = []; received = 0; announced = 0; arrived = 0; edge = edge_after o 0 }

abbrev pub after_rts : ℕ → Opening → SessionOutcome
after_rts now o = record {
  session = if opens o then Some (record { last = now; session = fresh o }) else None;
  reply = Some (first_reply o);
  message = None;
}

-- a DPO announces open packets, from the next one on
abbrev pub is_open : SessionState → ℕ → ℕ → Bool
is_open s count offset = nat_le 1 count && nat_le (s.received + count) s.edge && offset == s.received

abbrev pub with_group : SessionState → ℕ → SessionState
with_group s count =
    record { opening = s.opening; bytes = s.bytes; received = s.received; announced = count; arrived = 0; edge = s.edge }

abbrev pub after_offset : ℕ → Timed SessionState → ℕ → ℕ → SessionOutcome
after_offset now current count offset =
    if is_open current.session count offset
    then silent (Some (record { last = max now current.last; session = with_group current.session count }))
    else ended (Abort Disorder current.session.opening.pgn)

-- a DT is the next packet of the open group
abbrev pub is_next : SessionState → ℕ → Bool
is_next s number = nat_lt s.arrived s.announced && number == s.arrived + 1

-- a session with one more packet, which may be the last of its group
abbrev pub with_packet : SessionState → List ℕ → SessionState
with_packet s packet = record {
  opening = s.opening;
  bytes = take s.opening.size (s.bytes ++ packet);
  received = s.received + 1;
  announced = s.announced;
  arrived = s.arrived + 1;
  edge = if s.arrived + 1 == s.announced then edge_after s.opening (s.received + 1) else s.edge;
}

-- the step of the next packet of a session, which may be the last one
abbrev pub next_packet : ℕ → Timed SessionState → List ℕ → SessionOutcome
next_packet now current packet =
    let s = with_packet current.session packet in
    if s.received == packet_count_of s.opening
    then record { session = None; reply = reply_to s.opening s.received (s.arrived == s.announced); message = Some (record { pgn = s.opening.pgn; bytes = s.bytes }) }
    else record { session = Some (record { last = max now current.last; session = s }); reply = reply_to s.opening s.received (s.arrived == s.announced); message = None }

abbrev pub after_packet : ℕ → Timed SessionState → ℕ → List ℕ → SessionOutcome
after_packet now current number packet =
    if is_next current.session number then next_packet now current packet else ended (Abort Disorder current.session.opening.pgn)

-- the step of a DPO or a DT
abbrev pub after_part : ℕ → Option (Timed SessionState) → Part → SessionOutcome
after_part now None part = silent None
after_part now (Some current) (Offset count offset) = after_offset now current count offset
after_part now (Some current) (Packet number packet) = after_packet now current number packet

-- the step of one frame
abbrev pub step : ℕ → Option (Timed SessionState) → EtpFrame → SessionOutcome
step now current (etp.Rts o) = after_rts now o
step now current (etp.Part part) = after_part now current part
step now current etp.Aborted = silent None
step now current etp.Other = silent current

-- the number of packets announced by the last group, and of packets received in it
abbrev pub IsLast : List Group → ℕ → ℕ → Type 0
IsLast [] announced arrived = (announced ≡ 0) × (arrived ≡ 0)
IsLast (Announced count packets ∷ groups) announced arrived = (announced ≡ count) × (arrived ≡ length packets)

-- a session has exactly these groups
pub record HasGroups (current : SessionState) (o : Opening) (groups : List Group) : Type 0 where
  pub opening : current.opening ≡ o
  pub bytes : current.bytes ≡ take o.size (bytes_of groups)
  pub received_is : current.received ≡ received groups
  pub last : IsLast groups current.announced current.arrived
  pub edge_is : current.edge ≡ edge o groups

abbrev pub HasPackets : Option (Timed SessionState) → Opening → List Group → Type 0
HasPackets None o groups = ⊥
HasPackets (Some current) o groups = HasGroups current.session o groups
