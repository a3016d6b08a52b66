-- The terminal as a node of the bus: the address claims received, and its sessions (docs/PROFILE.md, "The holder of an
-- address", "Transport").
use Rattle.std.specs.Prelude.{◌≡◌, ◌≢◌, ◌⊎◌, ℕ, List, refl}
use Rattle.std.specs.Coded.{Coded, code_by, coded×, coded_ℕ}
use Rattle.std.specs.FinMap as finite
use Rattle.vt_can.specs.Assigned.{TP_TIMEOUT, ETP_TIMEOUT, SENDER_TIMEOUT}
use Rattle.vt_can.specs.declared.frames.frame.Frame.{Frame}
use Rattle.vt_can.specs.declared.transport.heard.Heard.{Heard}
use Rattle.vt_can.specs.frames.Frame.{source_of}
use Rattle.vt_can.specs.transport.Messages.{Message}
use Rattle.vt_can.specs.transport.Protocols.{Protocol}
use Rattle.vt_can.specs.transport.Sessions.{ByAddress, Expires, SomeOverdue, timed_code}
use Rattle.vt_names.specs.Claims.{Claimed, claimed_code}
use Rattle.vt_transport.specs.Protocol as tp
use Rattle.vt_transport.specs.Senders as sender
use Rattle.vt_transport.specs.Senders.{message_code}
use Rattle.vt_transport.specs.SessionState as tp_session
use Rattle.vt_transport.specs.Wire.{tp_frame}
use Rattle.vt_extended.specs.Protocol as etp
use Rattle.vt_extended.specs.SessionState as etp_session
use Rattle.vt_node.specs.ReceiverResults.{Taken, taken, frames_in, message_in}

-- the claims received, the sessions of both receivers by source and of the sender by destination, and the number of bytes
-- reserved by each receiver
pub record NodeState : Type 0 where
  pub claims : Claimed
  pub tp : ByAddress tp_session.SessionState
  pub etp : ByAddress etp_session.SessionState
  pub sending : ByAddress Message
  pub tp_spare : ℕ
  pub etp_spare : ℕ

abbrev pub node_code : Coded NodeState
node_code =
    code_by (Claimed × (ByAddress tp_session.SessionState × (ByAddress etp_session.SessionState × (ByAddress Message × (ℕ × ℕ)))))
    (coded× claimed_code
    (coded× (finite.code coded_ℕ (timed_code tp_session.session_state_code))
    (coded× (finite.code coded_ℕ (timed_code etp_session.session_state_code))
    (coded× (finite.code coded_ℕ (timed_code message_code)) (coded× coded_ℕ coded_ℕ)))))
    (λ n. (n.claims, (n.tp, (n.etp, (n.sending, (n.tp_spare, n.etp_spare))))))
    (λ p. record { claims = p.0; tp = p.1.0; etp = p.1.1.0; sending = p.1.1.1.0; tp_spare = p.1.1.1.1.0; etp_spare = p.1.1.1.1.1 })
    (λ _. refl)

-- some session of the node is overdue
abbrev pub HasOverdue : NodeState → ℕ → Type 0
HasOverdue node now =
    (SomeOverdue TP_TIMEOUT node.tp now ⊎ SomeOverdue ETP_TIMEOUT node.etp now) ⊎ SomeOverdue SENDER_TIMEOUT node.sending now

-- the result of a frame in each receiver, at a time
abbrev pub tp_taken : NodeState → ℕ → Frame → Taken tp_session.SessionState
tp_taken node now frame = taken tp.protocol now node.claims.own (source_of frame) (finite.get node.tp (source_of frame)) frame

abbrev pub etp_taken : NodeState → ℕ → Frame → Taken etp_session.SessionState
etp_taken node now frame = taken etp.protocol now node.claims.own (source_of frame) (finite.get node.etp (source_of frame)) frame

-- the answer of the sender to a frame, at a time
abbrev pub sender_answer : NodeState → ℕ → Frame → sender.Answer
sender_answer node now frame =
    sender.answered node.claims.own (source_of frame) now (finite.get node.sending (source_of frame)) (tp_frame node.claims.own frame)

-- A receiver returns the result of a frame, and the sessions of other sources are unchanged.
pub record HasTaken {S : Type 0} (taken : Taken S) (source : ℕ) (old new : ByAddress S) (heard : Heard) : Type 0 where
  pub frames : frames_in heard ≡ taken.frames
  pub message : message_in heard ≡ taken.message
  pub session : finite.get new source ≡ taken.session
  pub others : (other : ℕ) → other ≢ source → finite.get new other ≡ finite.get old other

-- The sender returns its answer to a frame, and the sessions of other destinations are unchanged.
pub record HasAnswered (given : sender.Answer) (to : ℕ) (old new : ByAddress Message) (frames : List Frame) : Type 0 where
  pub frames_are : frames ≡ given.frames
  pub session : finite.get new to ≡ given.session
  pub others : (other : ℕ) → other ≢ to → finite.get new other ≡ finite.get old other

-- The overdue session of the least address is removed, and the frame is its abort.
pub record HasExpired {S : Type 0} (timeout : ℕ) (abort : ℕ → S → Frame) (old new : ByAddress S) (now : ℕ) (frame : Frame) : Type 0 where
  pub address : ℕ
  pub session : S
  pub expired : Expires timeout old new now address session
  pub abort_is : frame ≡ abort address session

abbrev pub abort_by : {S F R : Type 0} → Protocol S F R → ℕ → ℕ → S → Frame
abort_by protocol own address session = protocol.reply_frame own address (protocol.timeout_reply session)
