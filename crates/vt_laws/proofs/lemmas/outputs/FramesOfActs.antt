-- The frames of an act are messages to the address, session control frames, or packets.
use Rattle.std.proofs.Common.{inl, inr, ◌||◌, ℕ, Bool, true, false, cond, nat_eq, List, [], ◌∷◌, ◌++◌, length, Option, Some, None, refl}
use Rattle.std.specs.Option.{option_eq}
use Rattle.vt_can.specs.declared.frames.frame.Frame.{Frame}
use Rattle.vt_can.specs.lines.Actions.{ActionValue}
use Rattle.vt_can.specs.transport.Steps.{stepped}
use Rattle.vt_transport.specs.Protocol as tp
use Rattle.vt_transport.specs.Senders as sender
use Rattle.vt_transport.specs.Senders.{timeout_frame}
use Rattle.vt_transport.specs.Wire.{tp_frame, rts_frame}
use Rattle.vt_extended.specs.Protocol as etp
use Rattle.vt_machine.specs.SetStates.{SetState}
use Rattle.vt_machine.specs.OperatorActions as operating
use Rattle.vt_names.specs.Registry.{Set}
use Rattle.vt_server.specs.message.MessageEffects.{handled}
use Rattle.vt_node.specs.Messages.{message_to}
use Rattle.vt_server.specs.operator.ActionEffects.{action_on, is_long, is_busy, filled, message_frames}
use Rattle.vt_server.specs.state.AddressViews.{AddressView, AddressOutcome, Act, Hears, Rebinds, Preloads, TpExpires, EtpExpires, SendingExpires, FallsSilent, Operates, Raises, unchanged, without_set, after_change, after_claim_heard, after_master, after_member, after_message, after_meaning, after_action, after_operator, outcome}
use Rattle.vt_server.specs.state.AddressStates.{AddressState, heard_at}
use Rattle.vt_node.specs.ReceiverResults.{taken}
use Rattle.vt_server.specs.frame.SessionEffects.{came}
use Rattle.vt_server.specs.message.Verdicts.{Verdict}
use Rattle.vt_node.specs.declared.bus.FrameMeaning.{FrameMeaning}
use Rattle.vt_node.specs.declared.bus.FrameMeaning.TheVariants.{Claim, ClaimRequest, Master, Member, Message, Tp, Etp, Nothing}
use Rattle.vt_laws.proofs.lemmas.outputs.Packets.{AreReplies, replies-append, option-replies, answer-replies}

-- ---- the frames of an act

message-replies : (a : ℕ) (p : AddressView) (verdict : Verdict) (o : Option Set) (bytes : Option (List ℕ)) → AreReplies p.terminal a (after_message a p verdict o bytes).frames
message-replies a p verdict None bytes = tt
message-replies a p verdict (Some set) None = tt
message-replies a p verdict (Some set) (Some bytes) =
    option-replies p.terminal a (message_to p.terminal a) (λ r. inl refl) (handled p.profile p.place.content verdict bytes).reply

came-replies : (now own a : ℕ) (place : AddressState) (n : FrameMeaning) (frame : Frame) → AreReplies own a (came now own a place n frame).frames
came-replies now own a place (Claim name) frame = tt
came-replies now own a place ClaimRequest frame = tt
came-replies now own a place (Master count) frame = tt
came-replies now own a place (Member name) frame = tt
came-replies now own a place Message frame = tt
came-replies now own a place Tp frame =
    replies-append own a (taken tp.protocol now own a place.tp frame).frames (sender.answered own a now place.sending (tp_frame own frame)).frames
    (option-replies own a (tp.protocol.reply_frame own a) (λ r. inr (inl refl)) (stepped tp.protocol now place.tp (tp_frame own frame)).reply)
    (answer-replies now own a place.sending frame)
came-replies now own a place Etp frame =
    option-replies own a (etp.protocol.reply_frame own a) (λ r. inr (inr (inl refl))) (stepped etp.protocol now place.etp (etp.protocol.frame_in own frame)).reply
came-replies now own a place Nothing frame = tt

claim-replies : (own a : ℕ) (p : AddressView) (o : Option Set) → AreReplies own a (after_claim_heard p o).frames
claim-replies own a p None = tt
claim-replies own a p (Some set) = tt

master-replies : (own a : ℕ) (p : AddressView) (o : Option ℕ) (count : ℕ) → AreReplies own a (after_master a p o count).frames
master-replies own a p None count = tt
master-replies own a p (Some h) count = tt

member-replies : (own a : ℕ) (p : AddressView) (o : Option Set) (name : ℕ) → AreReplies own a (after_member p o name).frames
member-replies own a p None name = tt
member-replies own a p (Some set) name = tt

carried-replies : (now a : ℕ) (p : AddressView) (n : FrameMeaning) (frame : Frame) (verdict : Verdict) → let c = came now p.terminal a p.place n frame in
    AreReplies p.terminal a (c.frames ++ (after_message a (record p { place = c.place }) verdict p.set c.message).frames)
carried-replies now a p n frame verdict =
    let c = came now p.terminal a p.place n frame in
    replies-append p.terminal a c.frames (after_message a (record p { place = c.place }) verdict p.set c.message).frames
    (came-replies now p.terminal a p.place n frame) (message-replies a (record p { place = c.place }) verdict p.set c.message)

meaning-replies : (now a : ℕ) (p : AddressView) (n : FrameMeaning) (frame : Frame) (verdict : Verdict) → AreReplies p.terminal a (after_meaning now a p n frame verdict).frames
meaning-replies now a p (Claim name) frame verdict = claim-replies p.terminal a p p.set
meaning-replies now a p ClaimRequest frame verdict = carried-replies now a p ClaimRequest frame verdict
meaning-replies now a p (Master count) frame verdict = master-replies p.terminal a p p.holder count
meaning-replies now a p (Member name) frame verdict = member-replies p.terminal a p p.set name
meaning-replies now a p Message frame verdict = carried-replies now a p Message frame verdict
meaning-replies now a p Tp frame verdict = carried-replies now a p Tp frame verdict
meaning-replies now a p Etp frame verdict = carried-replies now a p Etp frame verdict
meaning-replies now a p Nothing frame verdict = carried-replies now a p Nothing frame verdict

either-replies : (own a : ℕ) (b : Bool) (x y : AddressOutcome) → AreReplies own a x.frames → AreReplies own a y.frames → AreReplies own a (cond b x y).frames
either-replies own a true x y first second = first
either-replies own a false x y first second = second

change-replies : (own a : ℕ) (p : AddressView) (o : Option Set) → AreReplies own a (after_change p o).frames
change-replies own a p None = tt
change-replies own a p (Some set) = either-replies own a (option_eq nat_eq set.name None || option_eq nat_eq set.name p.holder) (unchanged p) (without_set p) tt tt

message_frames-replies : (own a : ℕ) (bytes : List ℕ) → AreReplies own a (message_frames own a bytes)
message_frames-replies own a [] = tt
message_frames-replies own a (byte ∷ bytes) = cases (is_long (byte ∷ bytes))
  where
    cases : (b : Bool) → AreReplies own a (cond b (rts_frame own a (length (byte ∷ bytes)) 0xE600 ∷ []) (message_to own a (filled (byte ∷ bytes)) ∷ []))
    cases true = (inr (inl refl), tt)
    cases false = (inl refl, tt)

action-replies : (now a : ℕ) (p : AddressView) (o : Option operating.ActionResult) → AreReplies p.terminal a (after_action now a p o).frames
action-replies now a p None = tt
action-replies now a p (Some (operating.Refused refusal)) = tt
action-replies now a p (Some (operating.Acts message start raised)) =
    either-replies p.terminal a (is_busy message p.place.sending) _ _ tt (message_frames-replies p.terminal a message)

operator-replies : (now a : ℕ) (p : AddressView) (action : ActionValue) (shown : Bool) (o : Option SetState) → AreReplies p.terminal a (after_operator now a p action shown o).frames
operator-replies now a p action shown None = tt
operator-replies now a p action shown (Some state) = action-replies now a p (action_on state shown action)

pub outcome-replies : (now a : ℕ) (p : AddressView) (h : Act) → AreReplies p.terminal a (outcome now a p h).frames
outcome-replies now a p (Hears n frame verdict) = meaning-replies now a (record p { place = heard_at now p.place }) n frame verdict
outcome-replies now a p Rebinds = change-replies p.terminal a p p.set
outcome-replies now a p (Preloads contents) = tt
outcome-replies now a p TpExpires = option-replies p.terminal a (λ timed. tp.protocol.reply_frame p.terminal a (tp.protocol.timeout_reply timed.session)) (λ timed. inr (inl refl)) p.place.tp
outcome-replies now a p EtpExpires = option-replies p.terminal a (λ timed. etp.protocol.reply_frame p.terminal a (etp.protocol.timeout_reply timed.session)) (λ timed. inr (inr (inl refl))) p.place.etp
outcome-replies now a p SendingExpires = option-replies p.terminal a (λ timed. timeout_frame p.terminal a timed.session) (λ timed. inr (inl refl)) p.place.sending
outcome-replies now a p FallsSilent = tt
outcome-replies now a p (Operates action shown) = operator-replies now a p action shown p.place.content.pool
outcome-replies now a p (Raises event) = tt
