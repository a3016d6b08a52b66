-- A sender as a value, and the results of its calls (docs/PROFILE.md, "The TP sender").
use Rattle.std.specs.Prelude.{◌≡◌, ℕ, zero, suc, max, true, false, ◌+◌, ◌-◌, ◌/◌, Bool, nat_lt, nat_le, ◌==◌, ◌&&◌, ◌||◌, if◌then◌else◌, min, Option, Some, None, List, [], ◌∷◌, length, map, refl}
use Rattle.std.specs.Coded.{Coded, code_by, coded×, coded_ℕ, coded_list}
use Rattle.std.specs.FinMap as finite
use Rattle.vt_can.specs.declared.frames.frame.Frame.{Frame}
use Rattle.vt_can.specs.declared.transport.sessions.Timed.{Timed}
use Rattle.vt_can.specs.transport.Sessions.{ByAddress, timed_code, untimed_session, Expires}
use Rattle.vt_can.specs.transport.Messages.{Message}
use Rattle.vt_can.specs.Assigned.{TP_CM, TP_DT, VT_TO_ECU, SENDER_TIMEOUT}
use Rattle.vt_can.specs.frames.Frame.{source_of}
use Rattle.vt_can.specs.transport.Wire.{IsOfAnotherGroup}
use Rattle.vt_transport.specs.declared.messages.TpFrame.{TpFrame}
use Rattle.vt_transport.specs.declared.messages.TpFrame.TheVariants.{Cts, EndOfMessage, Aborted}
use Rattle.vt_can.specs.declared.transport.wire.Reason.TheVariants.{Timeout, Disorder}
use Rattle.vt_transport.specs.declared.messages.Reply.TheVariants.{Abort}
use Rattle.vt_transport.specs.Wire.{tp_frame, reply_frame, rts_frame, packet_frame}

abbrev pub message_code : Coded Message
message_code =
    code_by (ℕ × List ℕ) (coded× coded_ℕ (coded_list coded_ℕ)) (λ m. (m.pgn, m.bytes)) (λ p. record { pgn = p.0; bytes = p.1 }) (λ _. refl)

-- a sender's address, and its messages by destination
pub record SenderState : Type 0 where
  pub own_address : ℕ
  pub sessions : ByAddress Message

abbrev pub sender_state_code : Coded SenderState
sender_state_code =
    code_by (ℕ × ByAddress Message) (coded× coded_ℕ (finite.code coded_ℕ (timed_code message_code)))
    (λ s. (s.own_address, s.sessions)) (λ p. record { own_address = p.0; sessions = p.1 }) (λ _. refl)

abbrev pub packet_count_of : Message → ℕ
packet_count_of message = (length message.bytes + 6) / 7

-- count numbers from next on
abbrev pub numbers_from : ℕ → ℕ → List ℕ
numbers_from next zero = []
numbers_from next (suc count) = next ∷ numbers_from (suc next) count

-- the result of a step: the session of a destination after it, and the frames to send there
pub record Answer : Type 0 where
  pub session : Option (Timed Message)
  pub frames : List Frame

abbrev pub refreshed : ℕ → Timed Message → Option (Timed Message)
refreshed now current = Some (record { last = max now current.last; session = current.session })

-- the answer to a CTS of the session's parameter group: no frame if it asks for no packet, an abort if
-- its next packet is not in the message, and otherwise the packets asked for, up to the last
abbrev pub clear_to_send : ℕ → ℕ → ℕ → Timed Message → ℕ → ℕ → Answer
clear_to_send own_address to now current count next =
    let last = packet_count_of current.session in
    if count == 0
    then record { session = refreshed now current; frames = [] }
    else if next == 0 || nat_lt last next
    then record { session = None; frames = reply_frame own_address to (Abort Disorder current.session.pgn) ∷ [] }
    else record {
      session = refreshed now current;
      frames = map (packet_frame own_address to current.session.bytes) (numbers_from next (min count (last + 1 - next)));
    }

abbrev pub unanswered : Option (Timed Message) → Answer
unanswered session = record { session = session; frames = [] }

-- the answer of an open session to a frame from its destination
abbrev pub session_answer : ℕ → ℕ → ℕ → Timed Message → TpFrame → Answer
session_answer own_address to now current (Cts count next pgn) =
    if pgn == current.session.pgn then clear_to_send own_address to now current count next else unanswered (Some current)
session_answer own_address to now current (EndOfMessage pgn) = unanswered (if pgn == current.session.pgn then None else Some current)
session_answer own_address to now current (Aborted pgn) = unanswered (if pgn == VT_TO_ECU then None else Some current)
session_answer own_address to now current _ = unanswered (Some current)

abbrev pub answered : ℕ → ℕ → ℕ → Option (Timed Message) → Option TpFrame → Answer
answered own_address to now None frame = unanswered None
answered own_address to now (Some current) None = unanswered (Some current)
answered own_address to now (Some current) (Some frame) = session_answer own_address to now current frame

-- an answer without the time of its session
abbrev pub untimed_answer : Answer → Answer
untimed_answer given = record { session = untimed_session given.session; frames = given.frames }

-- the answer to a frame from a destination, by the session to it, if there is one
abbrev pub answer_of : SenderState → ℕ → ℕ → Option TpFrame → Answer
answer_of sender to now frame = answered sender.own_address to now (finite.get sender.sessions to) frame

abbrev pub answer : SenderState → ℕ → Frame → Answer
answer sender now frame = answer_of sender (source_of frame) now (tp_frame sender.own_address frame)

abbrev pub is_of_group : ℕ → Option (Timed Message) → Bool
is_of_group pgn None = false
is_of_group pgn (Some current) = pgn == current.session.pgn

-- the session to a destination has given this answer, and the others are unchanged
pub record Answers (old new : SenderState) (to : ℕ) (given : Answer) (frames : List Frame) : Type 0 where
  pub own_address : new.own_address ≡ old.own_address
  pub session : finite.get new.sessions to ≡ given.session
  pub frames_are : frames ≡ given.frames
  pub others : (other : ℕ) → (other ≡ to → ⊥) → finite.get new.sessions other ≡ finite.get old.sessions other

-- a message of 9 to 1785 bytes
abbrev pub has_size : List ℕ → Bool
has_size bytes = nat_le 9 (length bytes) && nat_le (length bytes) 1785

-- a session was opened to a destination without one, and the frame is its RTS
pub record Starts (old new : SenderState) (now to : ℕ) (message : Message) (frame : Frame) : Type 0 where
  pub free : finite.get old.sessions to ≡ None
  pub size : has_size message.bytes ≡ true
  pub new_is : new ≡ record { own_address = old.own_address; sessions = finite.insert old.sessions to (record { last = now; session = message }) }
  pub frame_is : frame ≡ rts_frame old.own_address to (length message.bytes) message.pgn

-- the abort of an overdue session to a destination
abbrev pub timeout_frame : ℕ → ℕ → Message → Frame
timeout_frame own_address to message = reply_frame own_address to (Abort Timeout message.pgn)

-- the overdue session of the least destination was removed, and the frame is its abort
pub record TimesOut (old new : SenderState) (now : ℕ) (frame : Frame) : Type 0 where
  pub own_address : new.own_address ≡ old.own_address
  pub to : ℕ
  pub session : Message
  pub expired : Expires SENDER_TIMEOUT old.sessions new.sessions now to session
  pub abort : frame ≡ timeout_frame old.own_address to session

-- An answer depends on no time, except for the time of the session afterwards.
abbrev pub AnswersAreTimeless : Type 0
AnswersAreTimeless = (own_address to now : ℕ) (current : Option (Timed Message)) (frame : Option TpFrame)
    → untimed_answer (answered own_address to now current frame) ≡ untimed_answer (answered own_address to 0 (untimed_session current) frame)

-- A sender ignores a frame of neither of the protocol's parameter groups.
abbrev pub OtherGroupsAreUnanswered : Type 0
OtherGroupsAreUnanswered = (sender : SenderState) (now : ℕ) (frame : Frame) → IsOfAnotherGroup TP_CM TP_DT frame
    → answer sender now frame ≡ unanswered (finite.get sender.sessions (source_of frame))
