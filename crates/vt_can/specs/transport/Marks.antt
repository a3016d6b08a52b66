-- The history of a source on a bus: its frames, and a mark at each timeout of its session.
use Rattle.std.specs.Prelude.{◌≡◌, ◌↔◌, ℕ, if◌then◌else◌, Option, Some, None, List, [], ◌∷◌}
use Rattle.vt_can.specs.declared.transport.heard.Heard.{Heard}
use Rattle.vt_can.specs.transport.Messages.{Message}
use Rattle.vt_can.specs.transport.Sessions.{ByAddress, is_overdue}
use Rattle.vt_can.specs.transport.Histories.{SessionEvent, Came, TimedOut, untimed}
use Rattle.vt_can.specs.transport.Protocols.{Protocol}
use Rattle.vt_can.specs.transport.Steps.{session_after}
use Rattle.vt_can.specs.transport.Bus.{BusFrame, is_from, handed_out, inputs_of, session_of, IsRun}

module _ {F : Type 0} where
  abbrev pub with_frame : ℕ → Option F → List (ℕ × SessionEvent F) → List (ℕ × SessionEvent F)
  with_frame now None xs = xs
  with_frame now (Some frame) xs = (now, Came frame) ∷ xs

module _ {S F R : Type 0} (protocol : Protocol S F R) where
  -- a history with one more mark if its session is overdue
  abbrev pub marked : ℕ → List (ℕ × SessionEvent F) → List (ℕ × SessionEvent F)
  marked now xs = if is_overdue protocol.timeout now (session_after protocol xs) then (now, TimedOut) ∷ xs else xs

  -- The history of a source: at each input of the bus, a mark if its session is overdue, then the frame if
  -- it is the source's.
  abbrev pub history_of : ℕ → List (BusFrame F) → List (ℕ × SessionEvent F)
  history_of source [] = []
  history_of source (i ∷ inputs) =
      let before = marked i.time (history_of source inputs) in
      if is_from source i then with_frame i.time i.frame before else before

  -- the session of each source is that of its history
  abbrev pub SessionsAreOfHistories : Type 0
  SessionsAreOfHistories = (source : ℕ) (inputs : List (BusFrame F)) → session_of protocol source inputs ≡ session_after protocol (history_of source inputs)

  -- Over a definition of the whole messages in a history:
  module _ (IsWhole : List (SessionEvent F) → SessionEvent F → Message → Type 0) where
    -- an input is a frame of the source that makes the message whole in the source's history
    pub record Completes (source : ℕ) (i : BusFrame F) (inputs : List (BusFrame F)) (message : Message) : Type 0 where
      pub from : i.source ≡ source
      pub frame : F
      pub frame_is : i.frame ≡ Some frame
      pub whole : IsWhole (untimed (marked i.time (history_of source inputs))) (Came frame) message

    -- A run hands out a message of a source exactly when it becomes whole in the source's history.
    abbrev pub RunsHandOutWholeMessages : Type 0
    RunsHandOutWholeMessages = (sessions : ByAddress S) (x : BusFrame F × Heard) (run : List (BusFrame F × Heard)) (source : ℕ) (message : Message)
        → IsRun protocol sessions (x ∷ run) → (handed_out source x.1 ≡ Some message) ↔ Completes source x.0 (inputs_of run) message
