-- The steps of a receiver on the session of one source, and their agreement with the source's history.
use Rattle.std.specs.Prelude.{◌≡◌, ◌↔◌, ℕ, Option, Some, None, List, [], ◌∷◌}
use Rattle.vt_can.specs.declared.transport.sessions.Timed.{Timed}
use Rattle.vt_can.specs.transport.Messages.{Message}
use Rattle.vt_can.specs.transport.Histories.{SessionEvent, Came, TimedOut, Spelling, untimed, IsOpen, IsWhole}
use Rattle.vt_can.specs.transport.Protocols.{Protocol, SessionOutcome, silent}

module _ {S F R : Type 0} (protocol : Protocol S F R) where
  -- the step of a frame; a frame outside the protocol changes nothing
  abbrev pub stepped : ℕ → Option (Timed S) → Option F → SessionOutcome S R
  stepped now current None = silent current
  stepped now current (Some frame) = protocol.step now current frame

  abbrev pub event_step : ℕ → Option (Timed S) → SessionEvent F → SessionOutcome S R
  event_step now current (Came frame) = protocol.step now current frame
  event_step now current TimedOut = silent None

  -- the session of a source after its session events, each with its time, the latest first
  abbrev pub session_after : List (ℕ × SessionEvent F) → Option (Timed S)
  session_after [] = None
  session_after (x ∷ xs) = (event_step x.0 (session_after xs) x.1).session

-- Over the request of a session, and the relation of a session to its request and packets:
module _ {S F O P : Type 0} (spelling : Spelling F O P) (opening : S → O) (HasPackets : Option (Timed S) → O → P → Type 0) where
  -- a session that is open in the history, with its packets
  abbrev pub IsStanding : List (SessionEvent F) → Timed S → Type 0
  IsStanding hs current = (packets : P) × IsOpen spelling hs (opening current.session) packets × HasPackets (Some current) (opening current.session) packets

  -- the session is the one open in the history
  pub record Matches (hs : List (SessionEvent F)) (session : Option (Timed S)) : Type 0 where
    pub stands : (o : O) (packets : P) → IsOpen spelling hs o packets → HasPackets session o packets
    pub only : (current : Timed S) → session ≡ Some current → IsStanding hs current

  -- Over the replies to a history: the steps keep the session open in the history, and give the message and
  -- the reply of the next session event x.
  module _ {R : Type 0} (protocol : Protocol S F R) (IsAnswered : List (SessionEvent F) → SessionEvent F → Option R → Type 0) where
    pub record Agrees (xs : List (ℕ × SessionEvent F)) (x : ℕ × SessionEvent F) : Type 0 where
      pub session : Matches (untimed xs) (session_after protocol xs)
      pub messages : (message : Message) → ((event_step protocol x.0 (session_after protocol xs) x.1).message ≡ Some message) ↔ IsWhole spelling (untimed xs) x.1 message
      pub replies : IsAnswered (untimed xs) x.1 (event_step protocol x.0 (session_after protocol xs) x.1).reply

    abbrev pub StepsAssembleMessages : Type 0
    StepsAssembleMessages = (xs : List (ℕ × SessionEvent F)) (x : ℕ × SessionEvent F) → Agrees xs x
