-- What a receiver hands out is heard by a listener too. Every list has the latest first.
use Rattle.std.specs.Prelude.{◌≡◌, ◌<◌, ℕ, ◌^◌, Bool, Option, Some, None, List, [], ◌∷◌, map, ◌⊎◌, true, false}
use Rattle.vt_can.specs.declared.frames.frame.Frame.{Frame}
use Rattle.vt_can.specs.declared.transport.heard.Heard.{Heard}
use Rattle.vt_can.specs.frames.Identifier.{parts_of, destination_of}
use Rattle.vt_can.specs.transport.Messages.{Message}
use Rattle.vt_can.specs.transport.Sessions.{ByAddress}
use Rattle.vt_can.specs.transport.Protocols.{Protocol}
use Rattle.vt_can.specs.transport.Bus.{BusFrame, input_of, inputs_of, handed_out, IsRun}
use Rattle.vt_transport.specs.Protocol as transport
use Rattle.vt_extended.specs.Protocol as extended
use Rattle.log_listen.specs.declared.part.Part.{Part}
use Rattle.log_listen.specs.declared.part.Part.TheVariants.{Request, Packet, Offset, Abort}
use Rattle.log_listen.specs.Parts.{part_in}
use Rattle.log_listen.specs.Channels.{channel_of, other_channel, said}
use Rattle.log_listen.specs.Listeners.{CompletesAt}

-- a part is a request
abbrev pub IsRequest : Option Part → Type 0
IsRequest None = ⊥
IsRequest (Some (Request size pgn)) = Unit {0}
IsRequest (Some (Packet number bytes)) = ⊥
IsRequest (Some (Offset packets)) = ⊥
IsRequest (Some (Abort pgn)) = ⊥

-- a frame to a destination is an abort of a message of this parameter group by the other end of a channel
abbrev pub IsRefusalTo : ℕ → ℕ → Frame → Option ℕ → Type 0
IsRefusalTo channel pgn frame None = ⊥
IsRefusalTo channel pgn frame (Some destination) = (channel ≡ other_channel frame destination) × (part_in frame ≡ Some (Abort pgn))

abbrev pub IsRefusal : ℕ → ℕ → Frame → Type 0
IsRefusal channel pgn frame = IsRefusalTo channel pgn frame (destination_of (parts_of frame.id))

-- since the last request in a channel, the other end has aborted the message of this parameter group
abbrev pub IsRefused : ℕ → ℕ → List Frame → Type 0
IsRefused channel pgn [] = ⊥
IsRefused channel pgn (frame ∷ frames) = IsRefusal channel pgn frame ⊎ ((IsRequest (said channel frame) → ⊥) × IsRefused channel pgn frames)

abbrev pub frames_of : List (ℕ × Frame) → List Frame
frames_of timed = map (λ t. t.1) timed

-- A receiver at an address served frames, each at its time, and then one more with this answer.
pub record HasServed {S F R : Type 0} (protocol : Protocol S F R) (own : ℕ) (timed : List (ℕ × Frame)) (now : ℕ) (frame : Frame) (answer : Heard) : Type 0 where
  pub sessions : ByAddress S
  pub run : List (BusFrame F × Heard)
  pub inputs : inputs_of run ≡ map (λ t. input_of protocol own t.0 t.1) timed
  pub served : IsRun protocol sessions ((input_of protocol own now frame, answer) ∷ run)

-- Where a receiver at an address hands out the message of a source, and the address has not aborted it itself, a listener that heard
-- the same frames hands out the same message, in the channel from the source to the address.
abbrev pub MessagesAreHeard : {S F R : Type 0} → Protocol S F R → Bool → Type 0
MessagesAreHeard protocol extended = (own source : ℕ) (timed : List (ℕ × Frame)) (now : ℕ) (frame : Frame) (answer : Heard) (message : Message)
    → own < 2 ^ 8 → source < 2 ^ 8
    → HasServed protocol own timed now frame answer → handed_out source answer ≡ Some message
    → (IsRefused (channel_of extended source own) message.pgn (frames_of timed) → ⊥)
    → CompletesAt (frames_of timed) frame (channel_of extended source own) message

abbrev pub TransportMessagesAreHeard : Type 0
TransportMessagesAreHeard = MessagesAreHeard transport.protocol false

abbrev pub ExtendedMessagesAreHeard : Type 0
ExtendedMessagesAreHeard = MessagesAreHeard extended.protocol true

-- A frame makes at most one message whole, in one channel.
abbrev pub MessagesAreOne : Type 0
MessagesAreOne = (frames : List Frame) (frame : Frame) (channel other : ℕ) (message another : Message)
    → CompletesAt frames frame channel message → CompletesAt frames frame other another → (channel ≡ other) × (message ≡ another)
