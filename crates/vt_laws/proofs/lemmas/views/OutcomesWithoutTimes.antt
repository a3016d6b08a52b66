-- The outcome at an address does not depend on times, except for the times of its sessions.
use Rattle.std.proofs.Common.{◌≡◌, ℕ, Bool, true, false, cond, ◌||◌, ◌&&◌, ◌++◌, List, [], Option, Some, None, refl, ap, ◌∙◌, sym, nat_eq, is_some}
use Rattle.std.specs.Option.{option_eq}
use Rattle.vt_can.specs.declared.frames.frame.Frame.{Frame}
use Rattle.vt_can.specs.declared.transport.sessions.Timed.{Timed}
use Rattle.vt_can.specs.lines.Actions.{ActionValue}
use Rattle.vt_can.specs.transport.Messages as transport
use Rattle.vt_can.specs.transport.Protocols as protocols
use Rattle.vt_can.specs.transport.Protocols.{Protocol, IsTimeless}
use Rattle.vt_can.specs.transport.Sessions.{untimed_session}
use Rattle.vt_can.specs.transport.Steps.{stepped}
use Rattle.vt_transport.specs.Protocol as tp
use Rattle.vt_transport.specs.Senders as sender
use Rattle.vt_transport.specs.Senders.{AnswersAreTimeless}
use Rattle.vt_transport.specs.Wire.{tp_frame}
use Rattle.vt_extended.specs.Protocol as etp
use Rattle.vt_transport.specs.SessionState as tp_session
use Rattle.vt_extended.specs.SessionState as etp_session
use Rattle.vt_machine.specs.SetStates.{SetState}
use Rattle.vt_machine.specs.OperatorActions as operating
use Rattle.vt_names.specs.Claims.{OtherHoldersStay}
use Rattle.vt_names.specs.Registry.{Set}
use Rattle.vt_server.specs.message.MessageEffects.{handled}
use Rattle.vt_server.specs.operator.ActionEffects.{action_on, fault_of, is_long, is_busy, message_frames, sending_after, ran}
use Rattle.vt_server.specs.state.AddressViews.{AddressView, AddressOutcome, Act, Hears, Rebinds, Preloads, TpExpires, EtpExpires, SendingExpires, FallsSilent, Operates, Raises, unchanged, without_set, with_reply, after_change, after_claim_heard, after_master, after_member, after_message, with_frames_first, after_came, after_meaning, refused_by, with_place, after_action, after_operator, outcome, untimed_part, untimed_outcome}
use Rattle.vt_server.specs.state.AddressStates.{AddressState, no_content, with_content, with_pool, heard_at, untimed_place}
use Rattle.vt_node.specs.ReceiverResults.{Taken, taken, taken_of}
use Rattle.vt_server.specs.frame.SessionEffects.{Came, came, message_to_terminal, timeout_of, sending_timeout}
use Rattle.vt_server.specs.message.Verdicts.{Verdict}
use Rattle.vt_node.specs.declared.bus.FrameMeaning.{FrameMeaning}
use Rattle.vt_node.specs.declared.bus.FrameMeaning.TheVariants.{Claim, ClaimRequest, Master, Member, Message, Tp, Etp, Nothing}
use Rattle.vt_server.specs.declared.output.OperatorFault.TheVariants.{Busy}

-- the laws of the crates below on holders and on times
pub record Laws : Type 0 where
  pub holders : OtherHoldersStay
  pub tp : tp.IsTimeless
  pub etp : etp.IsTimeless
  pub sender : AnswersAreTimeless

untimed-twice : {S : Type 0} (o : Option (Timed S)) → untimed_session o ≡ untimed_session (untimed_session o)
untimed-twice None = refl
untimed-twice (Some timed) = refl

pub place-twice : (place : AddressState) → untimed_place place ≡ untimed_place (untimed_place place)
place-twice place = λ i. record place {
  tp = untimed-twice place.tp i;
  etp = untimed-twice place.etp i;
  sending = untimed-twice place.sending i;
  heard = None;
}

-- ---- claims, registration and messages, in two states of an address that are the same without times

module _ (p : AddressView) (x : AddressState) (alike : untimed_place p.place ≡ untimed_place x) where
  abbrev q : AddressView
  q = record p { place = x }

  kept-timeless : (set : Option Set) → untimed_outcome (record (unchanged p) { set = set }) ≡ untimed_outcome (record (unchanged q) { set = set })
  kept-timeless set = ap (λ (u : AddressState). record (unchanged p) { set = set; place = u }) alike

  closed-timeless : untimed_outcome (without_set p) ≡ untimed_outcome (without_set q)
  closed-timeless = ap (λ (u : AddressState). record (without_set p) { place = with_content u no_content }) alike

  claim-timeless : (o : Option Set) → untimed_outcome (after_claim_heard p o) ≡ untimed_outcome (after_claim_heard q o)
  claim-timeless None = kept-timeless p.set
  claim-timeless (Some set) = kept-timeless (after_claim_heard p (Some set)).set

  master-timeless : (a : ℕ) (o : Option ℕ) (count : ℕ) → untimed_outcome (after_master a p o count) ≡ untimed_outcome (after_master a q o count)
  master-timeless a None count = kept-timeless p.set
  master-timeless a (Some h) count = kept-timeless (after_master a p (Some h) count).set

  member-timeless : (o : Option Set) (name : ℕ) → untimed_outcome (after_member p o name) ≡ untimed_outcome (after_member q o name)
  member-timeless None name = kept-timeless p.set
  member-timeless (Some set) name = kept-timeless (after_member p (Some set) name).set

  change-timeless : (o : Option Set) → untimed_outcome (after_change p o) ≡ untimed_outcome (after_change q o)
  change-timeless None = kept-timeless p.set
  change-timeless (Some set) = cases (option_eq nat_eq set.name None || option_eq nat_eq set.name p.holder)
    where
      cases : (b : Bool) → untimed_outcome (cond b (unchanged p) (without_set p)) ≡ untimed_outcome (cond b (unchanged q) (without_set q))
      cases true = kept-timeless p.set
      cases false = closed-timeless

  message-timeless : (a : ℕ) (verdict : Verdict) (o : Option Set) (bytes : Option (List ℕ))
      → untimed_outcome (after_message a p verdict o bytes) ≡ untimed_outcome (after_message a q verdict o bytes)
  message-timeless a verdict None bytes = kept-timeless p.set
  message-timeless a verdict (Some set) None = kept-timeless p.set
  message-timeless a verdict (Some set) (Some bytes) =
      ap (λ (u : AddressState). with_reply a (record p { place = u }) (handled p.profile u.content verdict bytes)) alike

-- ---- sessions

module _ {S F R : Type 0} (protocol : Protocol S F R) (law : IsTimeless protocol) where
  stepped-timeless : (now : ℕ) (current : Option (Timed S)) (o : Option F)
      → protocols.untimed_outcome (stepped protocol now current o) ≡ protocols.untimed_outcome (stepped protocol 0 (untimed_session current) o)
  stepped-timeless now current None = λ i. record { session = untimed-twice current i; reply = None; message = None }
  stepped-timeless now current (Some frame) = law now current frame

  abbrev untimed_taken : Taken S → Taken S
  untimed_taken t = record t { session = untimed_session t.session }

  taken-timeless : (now own a : ℕ) (current : Option (Timed S)) (frame : Frame)
      → untimed_taken (taken protocol now own a current frame) ≡ untimed_taken (taken protocol 0 own a (untimed_session current) frame)
  taken-timeless now own a current frame =
      ap (taken_of (protocol.reply_frame own a)) (stepped-timeless now current (protocol.frame_in own frame))

timeout-timeless : {S F R : Type 0} (protocol : Protocol S F R) (own a : ℕ) (o : Option (Timed S)) → timeout_of protocol own a o ≡ timeout_of protocol own a (untimed_session o)
timeout-timeless protocol own a None = refl
timeout-timeless protocol own a (Some timed) = refl

sending-timeless : (own a : ℕ) (o : Option (Timed transport.Message)) → sending_timeout own a o ≡ sending_timeout own a (untimed_session o)
sending-timeless own a None = refl
sending-timeless own a (Some timed) = refl

abbrev untimed_came : Came → Came
untimed_came c = record c { place = untimed_place c.place }

module _ (laws : Laws) where
  pub came-timeless : (now own a : ℕ) (place : AddressState) (n : FrameMeaning) (frame : Frame)
      → untimed_came (came now own a place n frame) ≡ untimed_came (came 0 own a (untimed_place place) n frame)
  came-timeless now own a place (Claim name) frame = λ i. record { place = place-twice place i; frames = []; message = None }
  came-timeless now own a place ClaimRequest frame = λ i. record { place = place-twice place i; frames = []; message = None }
  came-timeless now own a place (Master count) frame = λ i. record { place = place-twice place i; frames = []; message = None }
  came-timeless now own a place (Member name) frame = λ i. record { place = place-twice place i; frames = []; message = None }
  came-timeless now own a place Message frame = λ i. record { place = place-twice place i; frames = []; message = Some frame.bytes.items }
  came-timeless now own a place Tp frame = λ i.
      let t : Taken tp_session.SessionState = taken-timeless tp.protocol laws.tp now own a place.tp frame i in
      let given : sender.Answer = laws.sender own a now place.sending (tp_frame own frame) i in
      record {
        place = record (untimed_place place) { tp = t.session; etp = untimed-twice place.etp i; sending = given.session };
        frames = t.frames ++ given.frames;
        message = message_to_terminal t.message;
      }
  came-timeless now own a place Etp frame = λ i.
      let t : Taken etp_session.SessionState = taken-timeless etp.protocol laws.etp now own a place.etp frame i in
      record {
        place = record (untimed_place place) { tp = untimed-twice place.tp i; etp = t.session; sending = untimed-twice place.sending i };
        frames = t.frames;
        message = message_to_terminal t.message;
      }
  came-timeless now own a place Nothing frame = λ i. record { place = place-twice place i; frames = []; message = None }

  -- The outcome of a frame depends only on the effect of the frame on the sessions, without times.
  came-outcome : (a : ℕ) (p : AddressView) (verdict : Verdict) (c : Came) → untimed_outcome (after_came a p verdict c) ≡ untimed_outcome (after_came a p verdict (untimed_came c))
  came-outcome a p verdict c =
      ap (with_frames_first c.frames) (message-timeless (record p { place = c.place }) (untimed_place c.place) (place-twice c.place) a verdict p.set c.message)

  carried-timeless : (now a : ℕ) (p : AddressView) (x : AddressState) → untimed_place p.place ≡ untimed_place x → (n : FrameMeaning) (frame : Frame) (verdict : Verdict)
      → untimed_outcome (after_came a p verdict (came now p.terminal a p.place n frame)) ≡ untimed_outcome (after_came a p verdict (came 0 p.terminal a x n frame))
  carried-timeless now a p x alike n frame verdict =
      came-outcome a p verdict (came now p.terminal a p.place n frame)
      ∙ ap (λ c. untimed_outcome (after_came a p verdict c))
      (came-timeless now p.terminal a p.place n frame
      ∙ ap (λ (u : AddressState). untimed_came (came 0 p.terminal a u n frame)) alike
      ∙ sym (came-timeless 0 p.terminal a x n frame))
      ∙ sym (came-outcome a p verdict (came 0 p.terminal a x n frame))

  meaning-timeless : (now a : ℕ) (p : AddressView) (x : AddressState) → untimed_place p.place ≡ untimed_place x → (n : FrameMeaning) (frame : Frame) (verdict : Verdict)
      → untimed_outcome (after_meaning now a p n frame verdict) ≡ untimed_outcome (after_meaning 0 a (record p { place = x }) n frame verdict)
  meaning-timeless now a p x alike (Claim name) frame verdict = claim-timeless p x alike p.set
  meaning-timeless now a p x alike ClaimRequest frame verdict = carried-timeless now a p x alike ClaimRequest frame verdict
  meaning-timeless now a p x alike (Master count) frame verdict = master-timeless p x alike a p.holder count
  meaning-timeless now a p x alike (Member name) frame verdict = member-timeless p x alike p.set name
  meaning-timeless now a p x alike Message frame verdict = carried-timeless now a p x alike Message frame verdict
  meaning-timeless now a p x alike Tp frame verdict = carried-timeless now a p x alike Tp frame verdict
  meaning-timeless now a p x alike Etp frame verdict = carried-timeless now a p x alike Etp frame verdict
  meaning-timeless now a p x alike Nothing frame verdict = carried-timeless now a p x alike Nothing frame verdict

-- ---- the operator

busy-timeless : {S : Type 0} (o : Option (Timed S)) → is_some o ≡ is_some (untimed_session o)
busy-timeless None = refl
busy-timeless (Some timed) = refl

sent-timeless : (now : ℕ) (bytes : List ℕ) (o : Option (Timed transport.Message))
    → untimed_session (sending_after now bytes o) ≡ untimed_session (sending_after 0 bytes (untimed_session o))
sent-timeless now bytes o = cases (is_long bytes)
  where
    cases : (b : Bool) → untimed_session (cond b (Some (record { last = now; session = record { pgn = 0xE600; bytes = bytes } })) o)
        ≡ untimed_session (cond b (Some (record { last = 0; session = record { pgn = 0xE600; bytes = bytes } })) (untimed_session o))
    cases true = refl
    cases false = untimed-twice o

either-timeless : (b : Bool) (x y x' y' : AddressOutcome) → untimed_outcome x ≡ untimed_outcome x' → untimed_outcome y ≡ untimed_outcome y'
    → untimed_outcome (cond b x y) ≡ untimed_outcome (cond b x' y')
either-timeless true x y x' y' first second = first
either-timeless false x y x' y' first second = second

action-timeless : (now a : ℕ) (p : AddressView) (o : Option operating.ActionResult) → untimed_outcome (after_action now a p o) ≡ untimed_outcome (after_action 0 a (untimed_part p) o)
action-timeless now a p None = kept-timeless p (untimed_place p.place) (place-twice p.place) p.set
action-timeless now a p (Some (operating.Refused refusal)) = ap (λ (u : AddressState). record (refused_by p (fault_of refusal)) { place = u }) (place-twice p.place)
action-timeless now a p (Some (operating.Acts message start raised)) =
    let q = untimed_part p in
    let pool = Some (ran start raised) in
    let frames = message_frames p.terminal a message in
    let acted = with_place p (record (with_pool p.place pool) { sending = sending_after now message p.place.sending }) frames in
    let then-acted = with_place q (record (with_pool q.place pool) { sending = sending_after 0 message q.place.sending }) frames in
    either-timeless (is_busy message p.place.sending) (refused_by p Busy) acted (refused_by q Busy) then-acted
    (ap (λ (u : AddressState). record (refused_by p Busy) { place = u }) (place-twice p.place))
    (λ i. record acted { place = record (with_pool (place-twice p.place i) pool) { sending = sent-timeless now message p.place.sending i } })
    ∙ ap (λ b. untimed_outcome (cond (is_long message && b) (refused_by q Busy) then-acted)) (busy-timeless p.place.sending)

operator-timeless : (now a : ℕ) (p : AddressView) (action : ActionValue) (shown : Bool) (o : Option SetState)
    → untimed_outcome (after_operator now a p action shown o) ≡ untimed_outcome (after_operator 0 a (untimed_part p) action shown o)
operator-timeless now a p action shown None = kept-timeless p (untimed_place p.place) (place-twice p.place) p.set
operator-timeless now a p action shown (Some state) = action-timeless now a p (action_on state shown action)

-- ---- any act

pub outcome-timeless : (laws : Laws) (now a : ℕ) (p : AddressView) (h : Act) → untimed_outcome (outcome now a p h) ≡ untimed_outcome (outcome 0 a (untimed_part p) h)
outcome-timeless laws now a p (Hears n frame verdict) =
    meaning-timeless laws now a (record p { place = heard_at now p.place }) (heard_at 0 (untimed_place p.place)) (place-twice p.place) n frame verdict
outcome-timeless laws now a p Rebinds = change-timeless p (untimed_place p.place) (place-twice p.place) p.set
outcome-timeless laws now a p (Preloads contents) =
    λ i. record (outcome now a p (Preloads contents)) { place = record (place-twice p.place i) { content = (outcome now a p (Preloads contents)).place.content } }
outcome-timeless laws now a p TpExpires = λ i. record (outcome now a p TpExpires) {
  place = record (place-twice p.place i) { tp = None };
  frames = timeout-timeless tp.protocol p.terminal a p.place.tp i;
}
outcome-timeless laws now a p EtpExpires = λ i. record (outcome now a p EtpExpires) {
  place = record (place-twice p.place i) { etp = None };
  frames = timeout-timeless etp.protocol p.terminal a p.place.etp i;
}
outcome-timeless laws now a p SendingExpires = λ i. record (outcome now a p SendingExpires) {
  place = record (place-twice p.place i) { sending = None };
  frames = sending-timeless p.terminal a p.place.sending i;
}
outcome-timeless laws now a p FallsSilent = closed-timeless p (untimed_place p.place) (place-twice p.place)
outcome-timeless laws now a p (Operates action shown) = operator-timeless now a p action shown p.place.content.pool
outcome-timeless laws now a p (Raises event) = λ i. record (outcome now a p (Raises event)) { place = with_pool (place-twice p.place i) (outcome now a p (Raises event)).place.content.pool }
