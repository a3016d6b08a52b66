-- The effect of a frame, and of silence, on the sessions of its source address (docs/PROFILE.md, "Transport").
use Rattle.std.specs.Prelude.{ℕ, ◌==◌, if◌then◌else◌, List, [], ◌++◌, Option, Some, None}
use Rattle.std.specs.Option.{option_map, option_to_list}
use Rattle.vt_can.specs.Assigned.{ECU_TO_VT}
use Rattle.vt_can.specs.declared.frames.frame.Frame.{Frame}
use Rattle.vt_can.specs.declared.transport.sessions.Timed.{Timed}
use Rattle.vt_can.specs.transport.Messages as transport
use Rattle.vt_can.specs.transport.Protocols.{Protocol}
use Rattle.vt_transport.specs.Protocol as tp
use Rattle.vt_transport.specs.Senders as sender
use Rattle.vt_transport.specs.Senders.{timeout_frame}
use Rattle.vt_transport.specs.Wire.{tp_frame}
use Rattle.vt_extended.specs.Protocol as etp
use Rattle.vt_server.specs.state.AddressStates.{AddressState}
use Rattle.vt_node.specs.ReceiverResults.{taken}
use Rattle.vt_node.specs.declared.bus.FrameMeaning.{FrameMeaning}
use Rattle.vt_node.specs.declared.bus.FrameMeaning.TheVariants.{Message, Tp, Etp}

-- the state of an address after a frame, the frames sent to it, and the bytes of a completed message to the terminal
pub record Came : Type 0 where
  pub place : AddressState
  pub frames : List Frame
  pub message : Option (List ℕ)

-- A message of another parameter group is dropped.
abbrev pub message_to_terminal : Option transport.Message → Option (List ℕ)
message_to_terminal None = None
message_to_terminal (Some message) = if message.pgn == ECU_TO_VT then Some message.bytes else None

-- A frame of the transport protocol goes to the receiver and to the sender.
abbrev pub came_tp : ℕ → ℕ → ℕ → AddressState → Frame → Came
came_tp now own address place frame =
    let received = taken tp.protocol now own address place.tp frame in
    let sent = sender.answered own address now place.sending (tp_frame own frame) in
    record {
      place = record place { tp = received.session; sending = sent.session };
      frames = received.frames ++ sent.frames;
      message = message_to_terminal received.message;
    }

abbrev pub came_etp : ℕ → ℕ → ℕ → AddressState → Frame → Came
came_etp now own address place frame =
    let received = taken etp.protocol now own address place.etp frame in
    record {
      place = record place { etp = received.session };
      frames = received.frames;
      message = message_to_terminal received.message;
    }

-- the effect of a frame, by the terminal's own address, the source address and its state
abbrev pub came : ℕ → ℕ → ℕ → AddressState → FrameMeaning → Frame → Came
came now own address place Message frame = record { place = place; frames = []; message = Some frame.bytes.items }
came now own address place Tp frame = came_tp now own address place frame
came now own address place Etp frame = came_etp now own address place frame
came now own address place _ frame = record { place = place; frames = []; message = None }

-- ---- timeouts

-- the abort of a receiving session
abbrev pub timeout_of : {S F R : Type 0} → Protocol S F R → ℕ → ℕ → Option (Timed S) → List Frame
timeout_of protocol own address session =
    option_to_list (option_map (λ timed. protocol.reply_frame own address (protocol.timeout_reply timed.session)) session)

-- the abort of a sending session
abbrev pub sending_timeout : ℕ → ℕ → Option (Timed transport.Message) → List Frame
sending_timeout own address sending = option_to_list (option_map (λ timed. timeout_frame own address timed.session) sending)
