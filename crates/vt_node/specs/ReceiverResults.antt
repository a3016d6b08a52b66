-- The result of a frame in a receiver (docs/PROFILE.md, "The TP receiver", "The ETP receiver").
use Rattle.std.specs.Prelude.{ℕ, List, [], ◌∷◌, Option, Some, None}
use Rattle.std.specs.Option.{option_map, option_to_list}
use Rattle.vt_can.specs.declared.frames.frame.Frame.{Frame}
use Rattle.vt_can.specs.declared.transport.heard.Heard.{Heard}
use Rattle.vt_can.specs.declared.transport.heard.Heard.TheVariants as heard
use Rattle.vt_can.specs.declared.transport.sessions.Timed.{Timed}
use Rattle.vt_can.specs.transport.Messages.{Message}
use Rattle.vt_can.specs.transport.Protocols.{Protocol, SessionOutcome}
use Rattle.vt_can.specs.transport.Steps.{stepped}

-- the session of a source after a frame, the frames sent to it, and the completed message
pub record Taken (S : Type 0) : Type 0 where
  pub session : Option (Timed S)
  pub frames : List Frame
  pub message : Option Message

abbrev pub taken_of : {S R : Type 0} → (R → Frame) → SessionOutcome S R → Taken S
taken_of spelled out = record { session = out.session; frames = option_to_list (option_map spelled out.reply); message = out.message }

-- the result of a frame, by the protocol, the time, the terminal's own address, the source and its session
abbrev pub taken : {S F R : Type 0} → Protocol S F R → ℕ → ℕ → ℕ → Option (Timed S) → Frame → Taken S
taken protocol now own address session frame =
    taken_of (protocol.reply_frame own address) (stepped protocol now session (protocol.frame_in own frame))

-- the frames and the message in a receiver's answer
abbrev pub frames_in : Heard → List Frame
frames_in heard.Nothing = []
frames_in (heard.Reply frame) = frame ∷ []
frames_in (heard.Message source pgn bytes reply) = reply ∷ []

abbrev pub message_in : Heard → Option Message
message_in (heard.Message source pgn bytes reply) = Some (record { pgn = pgn; bytes = bytes })
message_in _ = None
