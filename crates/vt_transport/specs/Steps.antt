-- One step of a TP receiver on the session of one source.
use Rattle.std.specs.Prelude.{◌≡◌, ℕ, ◌+◌, ◌==◌, if◌then◌else◌, max, Option, Some, None, List, [], ◌++◌, length, take}
use Rattle.vt_can.specs.declared.transport.sessions.Timed.{Timed}
use Rattle.vt_can.specs.declared.transport.wire.Reason.TheVariants.{Disorder}
use Rattle.vt_can.specs.Assigned.{VT_TO_ECU}
use Rattle.vt_can.specs.transport.Messages.{joined}
use Rattle.vt_can.specs.transport.Protocols as protocols
use Rattle.vt_can.specs.transport.Protocols.{silent, ended}
use Rattle.vt_transport.specs.declared.messages.Opening.{Opening}
use Rattle.vt_transport.specs.declared.messages.TpFrame.{TpFrame}
use Rattle.vt_transport.specs.declared.messages.TpFrame.TheVariants.{Rts, Aborted, Data}
use Rattle.vt_transport.specs.declared.messages.Reply.{Reply}
use Rattle.vt_transport.specs.declared.messages.Reply.TheVariants.{Abort}
use Rattle.vt_transport.specs.Messages.{opens, first_reply, reply_to}
use Rattle.vt_transport.specs.SessionState.{SessionState}

abbrev pub SessionOutcome : Type 0
SessionOutcome = protocols.SessionOutcome SessionState Reply

abbrev pub after_rts : ℕ → Opening → SessionOutcome
after_rts now o = record {
  session = if opens o then Some (record { last = now; session = record { opening = o; bytes = []; received = 0 } }) else None;
  reply = Some (first_reply o);
  message = None;
}

-- the step of the next packet of a session, which may be the last one
abbrev pub next_packet : ℕ → Timed SessionState → List ℕ → SessionOutcome
next_packet now current packet =
    let o = current.session.opening in
    let bytes = take o.size (current.session.bytes ++ packet) in
    let received = current.session.received + 1 in
    if received == o.packets
    then record { session = None; reply = reply_to o received; message = Some (record { pgn = o.pgn; bytes = bytes }) }
    else record {
      session = Some (record { last = max now current.last; session = record { opening = o; bytes = bytes; received = received } });
      reply = reply_to o received;
      message = None;
    }

abbrev pub after_packet : ℕ → Option (Timed SessionState) → ℕ → List ℕ → SessionOutcome
after_packet now None number packet = silent None
after_packet now (Some current) number packet =
    if number == current.session.received + 1
    then next_packet now current packet
    else ended (Abort Disorder current.session.opening.pgn)

-- the step of one frame
abbrev pub step : ℕ → Option (Timed SessionState) → TpFrame → SessionOutcome
step now current (Rts o) = after_rts now o
step now current (Data number packet) = after_packet now current number packet
step now current (Aborted pgn) = silent (if pgn == VT_TO_ECU then current else None)
step now current _ = silent current

-- a session has exactly these packets
abbrev pub HasPackets : Option (Timed SessionState) → Opening → List (List ℕ) → Type 0
HasPackets None o packets = ⊥
HasPackets (Some current) o packets =
    (current.session.opening ≡ o) × (current.session.bytes ≡ take o.size (joined packets)) × (current.session.received ≡ length packets)
