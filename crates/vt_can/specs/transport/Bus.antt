-- The session and the messages of one source among all sources on a bus.
use Rattle.std.specs.Prelude.{◌≡◌, ◌≤◌, ℕ, Bool, ◌==◌, if◌then◌else◌, Option, Some, None, List, [], ◌∷◌, ◌++◌, filter}
use Rattle.std.specs.FinMap as finite
use Rattle.std.specs.Option.{option_to_list}
use Rattle.vt_can.specs.declared.frames.frame.Frame.{Frame}
use Rattle.vt_can.specs.declared.transport.sessions.Timed.{Timed}
use Rattle.vt_can.specs.transport.Messages.{Message}
use Rattle.vt_can.specs.declared.transport.heard.Heard.{Heard}
use Rattle.vt_can.specs.declared.transport.heard.Heard.TheVariants as heard
use Rattle.vt_can.specs.frames.Frame.{source_of}
use Rattle.vt_can.specs.transport.Sessions.{ByAddress, alive}
use Rattle.vt_can.specs.transport.Protocols.{Protocol}
use Rattle.vt_can.specs.transport.Steps.{stepped}

-- a frame on the bus, decoded for this node; None for a frame outside the protocol
pub record BusFrame (F : Type 0) : Type 0 where
  pub time : ℕ
  pub source : ℕ
  pub frame : Option F

module _ {F : Type 0} where
  -- The times of inputs never go back. Every list of inputs has the latest first.
  abbrev pub IsInOrder : ℕ → List (BusFrame F) → Type 0
  IsInOrder now [] = Unit {0}
  IsInOrder now (i ∷ inputs) = (i.time ≤ now) × IsInOrder i.time inputs

  abbrev pub is_from : ℕ → BusFrame F → Bool
  is_from source i = i.source == source

-- the message of a source in an answer
abbrev pub handed_out : ℕ → Heard → Option Message
handed_out source heard.Nothing = None
handed_out source (heard.Reply reply) = None
handed_out source (heard.Message from pgn bytes reply) =
    if from == source then Some (record { pgn = pgn; bytes = bytes }) else None

module _ {F : Type 0} where
  abbrev pub inputs_of : List (BusFrame F × Heard) → List (BusFrame F)
  inputs_of [] = []
  inputs_of (x ∷ run) = x.0 ∷ inputs_of run

  abbrev pub handed_out_in : ℕ → List (BusFrame F × Heard) → List Message
  handed_out_in source [] = []
  handed_out_in source (x ∷ run) = option_to_list (handed_out source x.1) ++ handed_out_in source run

module _ {S F R : Type 0} (protocol : Protocol S F R) where
  -- a frame as an input of the node at an address
  abbrev pub input_of : ℕ → ℕ → Frame → BusFrame F
  input_of own_address now frame = record { time = now; source = source_of frame; frame = protocol.frame_in own_address frame }

  -- the session after a frame of its source, and the message completed by the frame
  abbrev pub session_after_frame : ℕ → Option (Timed S) → Option F → Option (Timed S)
  session_after_frame now current frame = (stepped protocol now current frame).session

  abbrev pub message_of_frame : ℕ → Option (Timed S) → Option F → Option Message
  message_of_frame now current frame = (stepped protocol now current frame).message

  -- The session of a source. At each input of the bus the overdue sessions end before the frame is received.
  abbrev pub session_of : ℕ → List (BusFrame F) → Option (Timed S)
  session_of source [] = None
  session_of source (i ∷ inputs) =
      let current = alive protocol.timeout i.time (session_of source inputs) in
      if is_from source i then session_after_frame i.time current i.frame else current

  -- the message of a source completed by an input
  abbrev pub message_at : ℕ → BusFrame F → List (BusFrame F) → Option Message
  message_at source i inputs =
      if is_from source i then message_of_frame i.time (alive protocol.timeout i.time (session_of source inputs)) i.frame else None

  -- the messages assembled for a source, the latest first
  abbrev pub messages_of : ℕ → List (BusFrame F) → List Message
  messages_of source [] = []
  messages_of source (i ∷ inputs) = option_to_list (message_at source i inputs) ++ messages_of source inputs

  -- The messages of a source depend on its own frames and their times alone.
  abbrev pub MessagesDependOnTheirSource : Type 0
  MessagesDependOnTheirSource = (source now : ℕ) (inputs : List (BusFrame F)) → IsInOrder now inputs
      → messages_of source inputs ≡ messages_of source (filter (is_from source) inputs)

  -- The receiver serves an input: the overdue sessions end, then the source's session makes a step and hands out its message.
  pub record Serves (old new : ByAddress S) (i : BusFrame F) (result : Heard) : Type 0 where
    pub session : finite.get new i.source ≡ session_after_frame i.time (alive protocol.timeout i.time (finite.get old i.source)) i.frame
    pub others : (other : ℕ) → (other ≡ i.source → ⊥) → finite.get new other ≡ alive protocol.timeout i.time (finite.get old other)
    pub message : (source : ℕ) → handed_out source result
        ≡ (if is_from source i then message_of_frame i.time (alive protocol.timeout i.time (finite.get old i.source)) i.frame else None)

  -- A run: from no session, the receiver serves inputs one after the other, each with its answer.
  abbrev pub IsRun : ByAddress S → List (BusFrame F × Heard) → Type 0
  IsRun sessions [] = sessions ≡ finite.empty
  IsRun sessions (x ∷ run) = (old : ByAddress S) × IsRun old run × Serves old sessions x.0 x.1

  -- A run hands out the messages of each source.
  abbrev pub RunsHandOutMessages : Type 0
  RunsHandOutMessages = (sessions : ByAddress S) (run : List (BusFrame F × Heard)) (source : ℕ) → IsRun sessions run
      → handed_out_in source run ≡ messages_of source (inputs_of run)
