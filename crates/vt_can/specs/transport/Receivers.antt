-- A receiver of a transport protocol as a value, and the results of its calls.
use Rattle.std.specs.Prelude.{◌≡◌, ◌≤◌, ℕ, true, false, Option, Some, None, refl}
use Rattle.std.specs.Coded.{Coded, code_by, coded×, coded_ℕ}
use Rattle.std.specs.FinMap as finite
use Rattle.vt_can.specs.declared.frames.frame.Frame.{Frame}
use Rattle.vt_can.specs.declared.transport.heard.Heard.{Heard}
use Rattle.vt_can.specs.declared.transport.heard.Heard.TheVariants as heard
use Rattle.vt_can.specs.transport.Messages.{Message}
use Rattle.vt_can.specs.frames.Frame.{source_of}
use Rattle.vt_can.specs.transport.Sessions.{ByAddress, timed_code, alive, Expires}
use Rattle.vt_can.specs.transport.Protocols.{Protocol, SessionOutcome}
use Rattle.vt_can.specs.transport.Steps.{stepped}

-- a receiver's address, its sessions by source, and the number of bytes reserved for a message
pub record ReceiverState (S : Type 0) : Type 0 where
  pub own_address : ℕ
  pub sessions : ByAddress S
  pub spare : ℕ

abbrev pub receiver_state_code : {S : Type 0} → Coded S → Coded (ReceiverState S)
receiver_state_code {S} code =
    code_by (ℕ × (ByAddress S × ℕ)) (coded× coded_ℕ (coded× (finite.code coded_ℕ (timed_code code)) coded_ℕ))
    (λ r. (r.own_address, (r.sessions, r.spare))) (λ p. record { own_address = p.0; sessions = p.1.0; spare = p.1.1 }) (λ _. refl)

-- the sessions of the other sources are unchanged
abbrev pub OthersStay : {S : Type 0} → ReceiverState S → ReceiverState S → ℕ → Type 0
OthersStay old new source = (other : ℕ) → (other ≡ source → ⊥) → finite.get new.sessions other ≡ finite.get old.sessions other

module _ {S F R : Type 0} (protocol : Protocol S F R) where
  -- the step of a frame on the session of its source
  abbrev pub outcome : ReceiverState S → ℕ → Frame → SessionOutcome S R
  outcome receiver now frame =
      stepped protocol now (finite.get receiver.sessions (source_of frame)) (protocol.frame_in receiver.own_address frame)

  -- the step of a frame after the overdue sessions have ended
  abbrev pub timely_outcome : ReceiverState S → ℕ → Frame → SessionOutcome S R
  timely_outcome receiver now frame =
      stepped protocol now (alive protocol.timeout now (finite.get receiver.sessions (source_of frame))) (protocol.frame_in receiver.own_address frame)

  -- The answer of a receiver for a reply and a message. A message always has a reply.
  abbrev pub AnswersWith : ℕ → ℕ → Option R → Option Message → Heard → Type 0
  AnswersWith own_address source None None result = result ≡ heard.Nothing
  AnswersWith own_address source None (Some message) result = ⊥
  AnswersWith own_address source (Some reply) None result = result ≡ heard.Reply (protocol.reply_frame own_address source reply)
  AnswersWith own_address source (Some reply) (Some message) result =
      result ≡ heard.Message source message.pgn message.bytes (protocol.reply_frame own_address source reply)

  -- the session of a source has made a step with this answer
  pub record MakesStep (old new : ReceiverState S) (source : ℕ) (out : SessionOutcome S R) (result : Heard) : Type 0 where
    pub own_address : new.own_address ≡ old.own_address
    pub session : finite.get new.sessions source ≡ out.session
    pub answers : AnswersWith old.own_address source out.reply out.message result

  -- the reserved capacity is enough for the message of the frame, if it opens a session
  abbrev pub HasCapacityFor : Option F → ℕ → Type 0
  HasCapacityFor None spare = Unit {0}
  HasCapacityFor (Some frame) spare = protocol.opens frame ≡ true → protocol.size frame ≤ spare

  -- the frame opens no session
  abbrev pub OpensNone : Option F → Type 0
  OpensNone None = Unit {0}
  OpensNone (Some frame) = protocol.opens frame ≡ false

  -- the overdue session of the least address was removed, and the frame is its abort
  pub record TimesOut (old new : ReceiverState S) (now : ℕ) (frame : Frame) : Type 0 where
    pub source : ℕ
    pub session : S
    pub expired : Expires protocol.timeout old.sessions new.sessions now source session
    pub abort : frame ≡ protocol.reply_frame old.own_address source (protocol.timeout_reply session)
