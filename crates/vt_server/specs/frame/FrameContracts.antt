-- The work done in advance for a frame, and the contracts of the calls that handle it.
use Rattle.std.specs.Prelude.{◌≡◌, ◌≢◌, ◌≤◌, ◌<◌, ◌+◌, ◌++◌, ℕ, true, false, List, [], ◌∷◌, length, Option, Some, None, is_some}
use Rattle.std.specs.Option.{option_to_list}
use Rattle.vt_can.specs.Assigned.{TP_TIMEOUT, ETP_TIMEOUT, SENDER_TIMEOUT}
use Rattle.vt_can.specs.declared.frames.frame.Frame.{Frame}
use Rattle.vt_can.specs.frames.Frame.{source_of}
use Rattle.vt_can.specs.transport.Receivers.{HasCapacityFor}
use Rattle.vt_can.specs.transport.Sessions.{alive}
use Rattle.vt_names.specs.Registry.{set_at}
use Rattle.vt_transport.specs.Protocol as tp
use Rattle.vt_transport.specs.Wire.{tp_frame}
use Rattle.vt_extended.specs.Protocol as etp
use Rattle.vt_extended.specs.Wire.{etp_frame}
use Rattle.vt_server.specs.message.Judgements.{IsJudgement, end_of}
use Rattle.vt_server.specs.Judgements.{IsJudged, ends_transfer}
use Rattle.vt_server.specs.message.MessageEffects.{TRANSFER, END_OF_POOL, asked}
use Rattle.vt_server.specs.frame.HoldersBeforeClaim.{AreFormer}
use Rattle.vt_node.specs.Messages.{technical_reply}
use Rattle.vt_server.specs.Outputs.{outputs_of, frames_of}
use Rattle.vt_server.specs.state.AddressViews.{AddressView, after_message, after_meaning}
use Rattle.vt_server.specs.state.AddressStates.{SetPool, AddressState, with_content}
use Rattle.vt_server.specs.frame.SessionEffects.{came}
use Rattle.vt_server.specs.States.{state_of}
use Rattle.vt_server.specs.Steps as steps
use Rattle.vt_server.specs.Steps.{is_lost_by, answer_to, is_defended, hearing, acted, sent_by_frame}
use Rattle.vt_server.specs.Terminals.{State, part, put}
use Rattle.vt_node.specs.AddressFunctions.{with_at}
use Rattle.vt_server.specs.message.Verdicts.{Verdict, IsVerdict}
use Rattle.vt_server.specs.state.PoolTables.{content_of, spare_of}
use Rattle.vt_server.specs.declared.frame.claim.FormerHolders.{FormerHolders}
use Rattle.vt_node.specs.declared.bus.FrameMeaning.{FrameMeaning}
use Rattle.vt_node.specs.declared.bus.FrameMeaning.TheVariants as meanings
use Rattle.vt_server.specs.declared.frame.step.PreparedFrame.{PreparedFrame}
use Rattle.vt_server.specs.declared.frame.step.PreparedFrame.TheVariants as readies
use Rattle.vt_server.specs.declared.upload_end.UploadEnd.{UploadEnd}
use Rattle.vt_server.specs.declared.output.Output.{Output}
use Rattle.vt_server.specs.declared.terminal.Terminal.{Terminal}
use Rattle.vt_server.specs.declared.message.upload.PreparedMessage.{PreparedMessage}
use Rattle.vt_server.specs.declared.message.upload.PreparedMessage.TheVariants as uploads

-- ---- uploads

abbrev pub BeginsWithByte : ℕ → List ℕ → Type 0
BeginsWithByte function [] = ⊥
BeginsWithByte function (byte ∷ bytes) = byte ≡ function

abbrev pub is_other : List ℕ → Type 0
is_other bytes = (BeginsWithByte TRANSFER bytes → ⊥) × (BeginsWithByte END_OF_POOL bytes → ⊥)

-- The work done in advance is right for a message of these bytes, by the content of its address and the capacity of its upload.
abbrev pub FitsMessage : SetPool → ℕ → List ℕ → PreparedMessage → Type 0
FitsMessage content spare bytes uploads.Nothing = is_other bytes
FitsMessage content spare bytes uploads.Capacity = BeginsWithByte TRANSFER bytes × (length bytes ≤ 1 + spare)
FitsMessage content spare bytes (uploads.Piece piece) = BeginsWithByte TRANSFER bytes × (piece.items ≡ bytes) × (length bytes ≤ 1 + spare)
FitsMessage content spare bytes (uploads.End judgement) = BeginsWithByte END_OF_POOL bytes × IsJudgement content judgement

-- The work done in advance is right for a message that is there already: a piece comes with its capacity.
abbrev pub FitsOneFrame : SetPool → ℕ → List ℕ → PreparedMessage → Type 0
FitsOneFrame content spare bytes uploads.Capacity = ⊥
FitsOneFrame content spare bytes uploads.Nothing = is_other bytes
FitsOneFrame content spare bytes (uploads.Piece piece) = BeginsWithByte TRANSFER bytes × (piece.items ≡ bytes) × (length bytes ≤ 1 + spare)
FitsOneFrame content spare bytes (uploads.End judgement) = BeginsWithByte END_OF_POOL bytes × IsJudgement content judgement

-- The work done in advance is the judgement of the upload.
abbrev pub IsEnd : SetPool → PreparedMessage → Type 0
IsEnd content (uploads.End judgement) = IsJudgement content judgement
IsEnd content upload = ⊥

-- The work done in advance is right for the message that a frame completes, if it completes one.
abbrev pub FitsCompleted : SetPool → ℕ → Option (List ℕ) → PreparedMessage → Type 0
FitsCompleted content spare None upload = Unit {0}
FitsCompleted content spare (Some bytes) upload = FitsMessage content spare bytes upload

-- The work done in advance is right for a frame of this meaning. A message of one frame is there already.
abbrev pub FitsMeaning : FrameMeaning → SetPool → ℕ → Option (List ℕ) → PreparedMessage → Type 0
FitsMeaning meanings.Message content spare (Some bytes) upload = FitsOneFrame content spare bytes upload
FitsMeaning meaning content spare message upload = FitsCompleted content spare message upload

-- ---- reserved capacity

-- Capacity is reserved for the session or the set that a frame may begin.
pub record HasCapacity (t : Terminal) (meaning : FrameMeaning) (frame : Frame) : Type 0 where
  pub tp : meaning ≡ meanings.Tp → HasCapacityFor tp.protocol (tp_frame t.node.claims.own frame) t.node.tp_spare
  pub etp : meaning ≡ meanings.Etp → HasCapacityFor etp.protocol (etp_frame t.node.claims.own frame) t.node.etp_spare
  pub sets : (count : ℕ) → meaning ≡ meanings.Master count → 0 < t.registry.capacity

-- The capacity reserved for sessions and sets is unchanged.
pub record CapacityStays (old new : Terminal) : Type 0 where
  pub node : new.node ≡ old.node
  pub registry : new.registry ≡ old.registry

-- the state of an address after its overdue sessions have ended
abbrev pub timely : ℕ → AddressState → AddressState
timely now place = record place { tp = alive TP_TIMEOUT now place.tp; etp = alive ETP_TIMEOUT now place.etp; sending = alive SENDER_TIMEOUT now place.sending }

-- the bytes of the message that a frame completes, by the state of its source address
abbrev pub message_by : Terminal → ℕ → AddressState → FrameMeaning → Frame → Option (List ℕ)
message_by t now place meaning frame = (came now t.node.claims.own (source_of frame) place meaning frame).message

abbrev pub IsNoClaim : FrameMeaning → Type 0
IsNoClaim meaning = (name : ℕ) → meaning ≢ meanings.Claim name

-- ---- the work done in advance for a frame

-- The work done in advance is right for a frame. The parameter HasUpload says which uploads are right.
abbrev pub FitsFrame : State → Terminal → FrameMeaning → Frame → (PreparedMessage → Type 0) → PreparedFrame → Type 0
FitsFrame s t meaning frame HasUpload readies.Loses = (state_of t ≡ s) × (is_lost_by (answer_to s (source_of frame) meaning) ≡ true)
FitsFrame s t meaning frame HasUpload (readies.Claimed former) =
    (name : ℕ) × (meaning ≡ meanings.Claim name) × (is_lost_by (answer_to s (source_of frame) meaning) ≡ false)
    × AreFormer s (source_of frame) name former × (former.is_defended ≡ is_defended meaning (answer_to s (source_of frame) meaning))
    × (state_of t ≡ steps.before s (source_of frame) meaning)
FitsFrame s t meaning frame HasUpload (readies.Prepared upload) =
    (state_of t ≡ s) × IsNoClaim meaning × HasCapacity t meaning frame × HasUpload upload

-- The work done in advance is right before the timeouts and closings of the frame's time.
abbrev pub FitsBeforeTimeouts : State → Terminal → ℕ → FrameMeaning → Frame → PreparedFrame → Type 0
FitsBeforeTimeouts s t now meaning frame ready =
    FitsFrame s t meaning frame
    (FitsMeaning meaning (content_of t.contents (source_of frame)) (spare_of t.contents (source_of frame))
    (message_by t now (timely now ((state_of t).places (source_of frame))) meaning frame)) ready

-- The upload is right after the timeouts and closings, if the source still has a set.
abbrev pub HasUpload : Terminal → FrameMeaning → Frame → PreparedMessage → Type 0
HasUpload t meaning frame upload =
    is_some (set_at (source_of frame) t.registry.sets) ≡ true
    → FitsMeaning meaning (content_of t.contents (source_of frame)) (spare_of t.contents (source_of frame))
    (message_by t t.time ((state_of t).places (source_of frame)) meaning frame) upload

abbrev pub FitsAfterTimeouts : State → Terminal → FrameMeaning → Frame → PreparedFrame → Type 0
FitsAfterTimeouts s t meaning frame ready = FitsFrame s t meaning frame (HasUpload t meaning frame) ready

-- how an upload ends by the work done in advance
abbrev pub end_prepared : PreparedFrame → Option UploadEnd
end_prepared (readies.Prepared (uploads.End judgement)) = Some (end_of judgement)
end_prepared (readies.Prepared uploads.Nothing) = None
end_prepared (readies.Prepared uploads.Capacity) = None
end_prepared (readies.Prepared (uploads.Piece piece)) = None
end_prepared readies.Loses = None
end_prepared (readies.Claimed former) = None

-- ---- contracts of the calls

-- If a message ends the upload of a set, the verdict on it is right.
abbrev pub IsJudgedAt : AddressView → List ℕ → Verdict → Type 0
IsJudgedAt p bytes verdict = ends_transfer p.set (Some bytes) ≡ true → IsVerdict p.place.content verdict

-- A message, if there is one, is handled at an address, by a right verdict where it ends the upload of a set.
pub record Handles (s : State) (source : ℕ) (message : Option (List ℕ)) (reply : Option Frame) (t : State) : Type 0 where
  pub verdict : Verdict
  pub judged : ends_transfer (part source s).set message ≡ true → IsVerdict (s.places source).content verdict
  pub state : t ≡ put source (after_message source (part source s) verdict (part source s).set message) s
  pub reply_is : option_to_list reply ≡ (after_message source (part source s) verdict (part source s).set message).frames

-- A message of these bytes is handled.
abbrev pub HandlesMessage : State → ℕ → List ℕ → Option Frame → State → Type 0
HandlesMessage s source bytes = Handles s source (Some bytes)

-- the state with another content of an address
abbrev pub with_content_at : ℕ → SetPool → State → State
with_content_at address content s = record s { places = with_at address (with_content (s.places address) content) s.places }

-- A technical request or a command is handled, and these are the bytes of the reply.
pub record IsReplyTo (s : State) (source : ℕ) (bytes : List ℕ) (reply : Option (List ℕ)) (t : State) : Type 0 where
  pub state : t ≡ with_content_at source (asked (s.places source).content bytes (technical_reply s.profile bytes)).content s
  pub reply_is : reply ≡ (asked (s.places source).content bytes (technical_reply s.profile bytes)).reply

-- A frame has the effect of its meaning at its source address.
pub record AppliesMeaning (s : State) (meaning : FrameMeaning) (frame : Frame) (t : State) (before after : List Output) : Type 0 where
  pub verdict : Verdict
  pub judged : IsJudged s.now (source_of frame) (part (source_of frame) s) meaning frame verdict
  pub state : t ≡ put (source_of frame) (after_meaning s.now (source_of frame) (part (source_of frame) s) meaning frame verdict) s
  pub sent : after ≡ before ++ frames_of (after_meaning s.now (source_of frame) (part (source_of frame) s) meaning frame verdict).frames

-- A recorded claim has its effect: the terminal defends its address, sets are closed, and the claim counts as a frame of its
-- source.
abbrev pub TakesClaim : FormerHolders → ℕ → State → State → List Output → List Output → Type 0
TakesClaim former source u t before after =
    (s : State) (name : ℕ) (frame : Frame) (verdict : Verdict) → source ≡ source_of frame → AreFormer s source name former
    → former.is_defended ≡ is_defended (meanings.Claim name) (answer_to s source (meanings.Claim name))
    → u ≡ steps.before s source (meanings.Claim name)
    → (t ≡ acted s source (meanings.Claim name) frame verdict)
    × (after ≡ before ++ outputs_of (sent_by_frame s source (meanings.Claim name) frame verdict))

-- A frame other than a claim, from the terminal or another node, has its effect.
pub record TakesFrame (s : State) (meaning : FrameMeaning) (frame : Frame) (t : State) (before after : List Output) : Type 0 where
  pub verdict : Verdict
  pub judged : IsJudged s.now (source_of frame) (part (source_of frame) s) meaning frame verdict
  pub state : t ≡ acted s (source_of frame) meaning frame verdict
  pub sent : after ≡ before ++ outputs_of (sent_by_frame s (source_of frame) meaning frame verdict)

-- A frame has its effect after the timeouts and closings of its time.
pub record FinishesFrame (old s : State) (meaning : FrameMeaning) (frame : Frame) (t : State) (before after : List Output) : Type 0 where
  pub verdict : Verdict
  pub judged : IsJudged s.now (source_of frame) (part (source_of frame) s) meaning frame verdict
  pub state : t ≡ (hearing old s (source_of frame) meaning frame verdict).after
  pub sent : after ≡ before ++ outputs_of (hearing old s (source_of frame) meaning frame verdict).sent
