-- A transport protocol for a receiver: the session of a source (S), the frames (F) and the replies (R).
use Rattle.std.specs.Prelude.{◌≡◌, ℕ, Bool, Option, Some, None}
use Rattle.vt_can.specs.declared.frames.frame.Frame.{Frame}
use Rattle.vt_can.specs.declared.transport.sessions.Timed.{Timed}
use Rattle.vt_can.specs.declared.transport.received.Received.{Received}
use Rattle.vt_can.specs.declared.transport.received.Received.TheVariants.{Refused, More, Whole}
use Rattle.vt_can.specs.transport.Messages.{Message}
use Rattle.vt_can.specs.transport.Sessions.{untimed_session}

-- the result of a step: the session after it, its reply and its message
pub record SessionOutcome (S R : Type 0) : Type 0 where
  pub session : Option (Timed S)
  pub reply : Option R
  pub message : Option Message

module _ {S R : Type 0} where
  abbrev pub silent : Option (Timed S) → SessionOutcome S R
  silent session = record { session = session; reply = None; message = None }

  abbrev pub ended : R → SessionOutcome S R
  ended reply = record { session = None; reply = Some reply; message = None }

  -- The outcome of a frame for its session. A session with packets to come gets this time.
  abbrev pub outcome_of : ℕ → Received S R → SessionOutcome S R
  outcome_of last (Refused reply) = ended reply
  outcome_of last (More session reply) =
      record { session = Some (record { last = last; session = session }); reply = reply; message = None }
  outcome_of last (Whole pgn bytes reply) =
      record { session = None; reply = Some reply; message = Some (record { pgn = pgn; bytes = bytes }) }

  -- an outcome without the time of its session
  abbrev pub untimed_outcome : SessionOutcome S R → SessionOutcome S R
  untimed_outcome out = record { session = untimed_session out.session; reply = out.reply; message = out.message }

pub record Protocol (S F R : Type 0) : Type 0 where
  -- a frame decoded for the node at an address; None for a frame outside the protocol
  pub frame_in : ℕ → Frame → Option F
  -- whether a frame opens a session, and the size of the message in bytes
  pub opens : F → Bool
  pub size : F → ℕ
  -- the step of a frame, at a time, on the session of its source
  pub step : ℕ → Option (Timed S) → F → SessionOutcome S R
  -- the longest time that a session stays open without one of its frames, and the reply that then ends it
  pub timeout : ℕ
  pub timeout_reply : S → R
  -- the frame of a reply, from one address to another
  pub reply_frame : ℕ → ℕ → R → Frame

-- A step depends on neither the time of the frame nor the time of the session, except for the time of the session after it.
abbrev pub IsTimeless : {S F R : Type 0} → Protocol S F R → Type 0
IsTimeless {S} {F} {R} protocol = (now : ℕ) (current : Option (Timed S)) (frame : F)
    → untimed_outcome (protocol.step now current frame) ≡ untimed_outcome (protocol.step 0 (untimed_session current) frame)
