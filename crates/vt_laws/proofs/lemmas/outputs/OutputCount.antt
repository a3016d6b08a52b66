-- A step sends at most 1,024 outputs.
use Rattle.std.proofs.Common.{◌≡◌, ◌<◌, ◌≤◌, ◌+◌, ℕ, zero, suc, ◌||◌, Bool, true, false, cond, nat_eq, eqb, List, [], ◌∷◌, ◌++◌, map, length, slice_index, Option, Some, None, refl, sym, ap, subst, ◌∙◌, arith}
use Rattle.std.proofs.lemmas.List.{length-append, length-map}
use Rattle.std.specs.Option.{option_eq}
use Rattle.vt_can.specs.Assigned.{TP_TIMEOUT, ETP_TIMEOUT, SENDER_TIMEOUT}
use Rattle.vt_can.specs.declared.frames.frame.Frame.{Frame}
use Rattle.vt_can.specs.frames.Frame.{source_of}
use Rattle.vt_can.specs.lines.Actions.{ActionValue}
use Rattle.vt_can.specs.transport.Messages as transport
use Rattle.vt_can.specs.transport.Sessions.{each_below, is_overdue}
use Rattle.vt_can.specs.transport.Steps.{stepped}
use Rattle.vt_transport.specs.Protocol as tp
use Rattle.vt_transport.specs.Senders as sender
use Rattle.vt_transport.specs.Senders.{timeout_frame}
use Rattle.vt_transport.specs.Wire.{tp_frame, rts_frame}
use Rattle.vt_extended.specs.Protocol as etp
use Rattle.vt_machine.specs.SetStates.{SetState}
use Rattle.vt_machine.specs.OperatorActions as operating
use Rattle.vt_names.specs.Registry.{Set}
use Rattle.vt_node.specs.Bus.{meaning_of}
use Rattle.vt_server.specs.shown.ShownSet.{choosing, shown_now, events_of_change, display, status, same_display, ShownMasks, status_frame}
use Rattle.vt_server.specs.message.MessageEffects.{handled}
use Rattle.vt_server.specs.frame.TimeoutActs.{at_time, lapsed, sent_by_lapses, tp_due, etp_due, sending_due, after_tp_timeouts, after_etp_timeouts}
use Rattle.vt_node.specs.Messages.{message_to, claim_from}
use Rattle.vt_server.specs.operator.ActionEffects.{action_on, is_long, is_busy, filled, message_frames, sending_after, ran}
use Rattle.vt_server.specs.state.AddressViews.{AddressView, AddressOutcome, Act, Hears, TpExpires, EtpExpires, SendingExpires, Operates, unchanged, without_set, after_change, after_claim_heard, after_master, after_member, after_message, with_frames_first, after_meaning, refused_by, with_place, after_action, after_operator, outcome}
use Rattle.vt_server.specs.state.AddressStates.{AddressState, heard_at, with_pool}
use Rattle.vt_node.specs.ReceiverResults.{taken}
use Rattle.vt_laws.specs.Destinations.{HasByte}
use Rattle.vt_server.specs.frame.SessionEffects.{came, message_to_terminal}
use Rattle.vt_server.specs.Steps.{JudgedInput, FrameAt, ActionAt, step, before, changes, heard_at_source, acts, answer_to, is_lost_by, is_defended, defence, with_shown_updated, sent_by_shown_update, losing, acting, no_step, step_frame, has_no_set, selecting, at_shown, no_set, step_action}
use Rattle.vt_server.specs.Terminals.{State, Sent, ToOne, ToAll, part, after_act, after_acts, sent_by_act, sent_by_acts, to_address, sent_refusal}
use Rattle.vt_server.specs.message.Verdicts.{Verdict}
use Rattle.vt_node.specs.declared.bus.FrameMeaning.{FrameMeaning}
use Rattle.vt_node.specs.declared.bus.FrameMeaning.TheVariants.{Claim, ClaimRequest, Master, Member, Message, Tp, Etp, Nothing}
use Rattle.vt_server.specs.declared.output.OperatorFault.TheVariants.{Busy}
use Rattle.vt_server.proofs.lemmas.acts.AddressedActs.{AllAt, at-append, at-below, at-changes, at-heard, at-change}
use Rattle.vt_laws.proofs.lemmas.outputs.Packets.{option-few, one_if, tp-few, one-few}
use Rattle.vt_server.proofs.lemmas.acts.ComposedActs.{sent_by_one-is}

-- ---- the outputs of an act

outputs-length : (a : ℕ) (after : AddressOutcome) → length (to_address a after) ≡ length after.frames + length (sent_refusal after.refused)
outputs-length a after =
    length-append (map (ToOne a) after.frames) (sent_refusal after.refused)
    ∙ ap (λ n. n + length (sent_refusal after.refused)) (length-map after.frames (ToOne a))

-- An outcome without a refusal sends its frames alone.
frames-few : (a n : ℕ) (after : AddressOutcome) → after.refused ≡ None → length after.frames ≤ n → length (to_address a after) ≤ n
frames-few a n after none few =
    let is = outputs-length a after in
    let zero-more : length (sent_refusal after.refused) ≡ 0 = ap (λ o. length (sent_refusal o)) none in
    omega arith

message-few : (a : ℕ) (p : AddressView) (verdict : Verdict) (o : Option Set) (bytes : Option (List ℕ)) → length (after_message a p verdict o bytes).frames ≤ one_if bytes
message-few a p verdict None bytes = omega arith
message-few a p verdict (Some set) None = omega arith
message-few a p verdict (Some set) (Some bytes) = option-few (message_to p.terminal a) (handled p.profile p.place.content verdict bytes).reply

message-refused : (a : ℕ) (p : AddressView) (verdict : Verdict) (o : Option Set) (bytes : Option (List ℕ)) → (after_message a p verdict o bytes).refused ≡ None
message-refused a p verdict None bytes = refl
message-refused a p verdict (Some set) None = refl
message-refused a p verdict (Some set) (Some bytes) = refl

to_terminal-few : (o : Option transport.Message) → one_if (message_to_terminal o) ≤ one_if o
to_terminal-few None = omega arith
to_terminal-few (Some message) = cases (eqb message.pgn 0xE700)
  where
    cases : (b : Bool) → one_if (cond b (Some message.bytes) None) ≤ 1
    cases true = omega arith
    cases false = omega arith

came-few : (now own a : ℕ) (place : AddressState) (n : FrameMeaning) (frame : Frame) → slice_index frame.bytes.items 1 < 256 → let c = came now own a place n frame in
    length c.frames + one_if c.message ≤ 255
came-few now own a place (Claim name) frame small = omega arith
came-few now own a place ClaimRequest frame small = omega arith
came-few now own a place (Master count) frame small = omega arith
came-few now own a place (Member name) frame small = omega arith
came-few now own a place Message frame small = omega arith
came-few now own a place Tp frame small =
    let t = taken tp.protocol now own a place.tp frame in
    let g = sender.answered own a now place.sending (tp_frame own frame) in
    let few = tp-few now own a place.tp place.sending frame small in
    let both = length-append t.frames g.frames in
    let last = to_terminal-few t.message in
    omega arith
came-few now own a place Etp frame small =
    let t = taken etp.protocol now own a place.etp frame in
    let few = option-few (etp.protocol.reply_frame own a) (stepped etp.protocol now place.etp (etp.protocol.frame_in own frame)).reply in
    let last = one-few (message_to_terminal t.message) in
    omega arith
came-few now own a place Nothing frame small = omega arith

silent-none : (a : ℕ) (p : AddressView) (verdict : Verdict) (o : Option Set) → length (to_address a (with_frames_first [] (after_message a p verdict o None))) ≤ 0
silent-none a p verdict None = omega arith
silent-none a p verdict (Some set) = omega arith

claim-none : (a : ℕ) (p : AddressView) (o : Option Set) → length (to_address a (after_claim_heard p o)) ≤ 0
claim-none a p None = omega arith
claim-none a p (Some set) = omega arith

master-none : (a : ℕ) (p : AddressView) (o : Option ℕ) (count : ℕ) → length (to_address a (after_master a p o count)) ≤ 0
master-none a p None count = omega arith
master-none a p (Some h) count = omega arith

member-none : (a : ℕ) (p : AddressView) (o : Option Set) (name : ℕ) → length (to_address a (after_member p o name)) ≤ 0
member-none a p None name = omega arith
member-none a p (Some set) name = omega arith

change-none : (a : ℕ) (p : AddressView) (o : Option Set) → length (to_address a (after_change p o)) ≤ 0
change-none a p None = omega arith
change-none a p (Some set) = cases (option_eq nat_eq set.name None || option_eq nat_eq set.name p.holder)
  where
    cases : (b : Bool) → length (to_address a (cond b (unchanged p) (without_set p))) ≤ 0
    cases true = omega arith
    cases false = omega arith

module _ (now a : ℕ) (p : AddressView) (frame : Frame) (verdict : Verdict) (small : slice_index frame.bytes.items 1 < 256) where
  carried-few : (n : FrameMeaning) → let c = came now p.terminal a p.place n frame in let after = after_message a (record p { place = c.place }) verdict p.set c.message in
      length (to_address a (record after { frames = c.frames ++ after.frames })) ≤ 255
  carried-few n =
      let c = came now p.terminal a p.place n frame in
      let after = after_message a (record p { place = c.place }) verdict p.set c.message in
      let few = came-few now p.terminal a p.place n frame small in
      let last = message-few a (record p { place = c.place }) verdict p.set c.message in
      let both = length-append c.frames after.frames in
      frames-few a 255 (record after { frames = c.frames ++ after.frames }) (message-refused a (record p { place = c.place }) verdict p.set c.message) (omega arith)

  meaning-few : (n : FrameMeaning) → length (to_address a (after_meaning now a p n frame verdict)) ≤ 255
  meaning-few (Claim name) = let none = claim-none a p p.set in omega arith
  meaning-few ClaimRequest = carried-few ClaimRequest
  meaning-few (Master count) = let none = master-none a p p.holder count in omega arith
  meaning-few (Member name) = let none = member-none a p p.set name in omega arith
  meaning-few Message = carried-few Message
  meaning-few Tp = carried-few Tp
  meaning-few Etp = carried-few Etp
  meaning-few Nothing = carried-few Nothing

either-few : (a n : ℕ) (b : Bool) (x y : AddressOutcome) → length (to_address a x) ≤ n → length (to_address a y) ≤ n → length (to_address a (cond b x y)) ≤ n
either-few a n true x y first second = first
either-few a n false x y first second = second

message_frames-few : (own a : ℕ) (bytes : List ℕ) → length (message_frames own a bytes) ≤ 1
message_frames-few own a [] = omega arith
message_frames-few own a (byte ∷ bytes) = cases (is_long (byte ∷ bytes))
  where
    cases : (b : Bool) → length (cond b (rts_frame own a (length (byte ∷ bytes)) 0xE600 ∷ []) (message_to own a (filled (byte ∷ bytes)) ∷ [])) ≤ 1
    cases true = omega arith
    cases false = omega arith

action-few : (now a : ℕ) (p : AddressView) (o : Option operating.ActionResult) → length (to_address a (after_action now a p o)) ≤ 1
action-few now a p None = omega arith
action-few now a p (Some (operating.Refused refusal)) = omega arith
action-few now a p (Some (operating.Acts message start raised)) =
    let acted = with_place p (record (with_pool p.place (Some (ran start raised))) { sending = sending_after now message p.place.sending }) (message_frames p.terminal a message) in
    either-few a 1 (is_busy message p.place.sending) (refused_by p Busy) acted (omega arith) (frames-few a 1 acted refl (message_frames-few p.terminal a message))

operator-few : (now a : ℕ) (p : AddressView) (action : ActionValue) (shown : Bool) (o : Option SetState) → length (to_address a (after_operator now a p action shown o)) ≤ 1
operator-few now a p action shown None = omega arith
operator-few now a p action shown (Some state) = action-few now a p (action_on state shown action)

-- ---- the outputs of several acts

abbrev SendsFew : ℕ → Act → Type 0
SendsFew n h = (s : State) (a : ℕ) → length (to_address a (outcome s.now a (part a s) h)) ≤ n

act-few : (n : ℕ) (h : Act) (s : State) (a : ℕ) → SendsFew n h → length (sent_by_act s a h) ≤ n
act-few n h s a few = subst (λ (l : List Sent). length l ≤ n) (sym (sent_by_one-is s a h)) (few s a)

acts-none : (s : State) (hs : List (ℕ × Act)) → AllAt (λ a h. SendsFew 0 h) hs → length (sent_by_acts s hs) ≤ 0
acts-none s [] none = omega arith
acts-none s (h ∷ hs) none =
    let both = length-append (sent_by_act s h.0 h.1) (sent_by_acts (after_act s h.0 h.1) hs) in
    let first = act-few 0 h.1 s h.0 none.0 in
    let rest = acts-none (after_act s h.0 h.1) hs none.1 in
    omega arith

acts-each : (s : State) (hs : List (ℕ × Act)) → AllAt (λ a h. SendsFew 1 h) hs → length (sent_by_acts s hs) ≤ length hs
acts-each s [] one = omega arith
acts-each s (h ∷ hs) one =
    let both = length-append (sent_by_act s h.0 h.1) (sent_by_acts (after_act s h.0 h.1) hs) in
    let first = act-few 1 h.1 s h.0 one.0 in
    let rest = acts-each (after_act s h.0 h.1) hs one.1 in
    omega arith

below-few : (holds : ℕ → Bool) (what : Act) (n : ℕ) → length (each_below holds what n) ≤ n
unfolding each_below
below-few holds what zero = omega arith
below-few holds what (suc n) =
    let last-one : List (ℕ × Act) = cond (holds n) ((n, what) ∷ []) [] in
    let both = length-append (each_below holds what n) last-one in
    let first = below-few holds what n in
    let last = cases (holds n) in
    omega arith
  where
    cases : (b : Bool) → length {A = ℕ × Act} (cond b ((n, what) ∷ []) []) ≤ 1
    cases true = omega arith
    cases false = omega arith

timeouts-few : (s : State) (holds : ℕ → Bool) (what : Act) → SendsFew 1 what → length (sent_by_acts s (each_below holds what 256)) ≤ 256
timeouts-few s holds what one =
    let each = acts-each s (each_below holds what 256) (at-below (λ a h. SendsFew 1 h) holds what 256 (λ a lt. one)) in
    let few = below-few holds what 256 in
    omega arith

lapses-few : (s : State) → length (sent_by_lapses s) ≤ 768
unfolding sent_by_lapses
lapses-few s =
    let t = after_tp_timeouts s in
    let u = after_etp_timeouts s in
    let first = timeouts-few s (λ b. is_overdue TP_TIMEOUT s.now (s.places b).tp) TpExpires
    (λ x a. frames-few a 1 (outcome x.now a (part a x) TpExpires) refl (option-few (λ timed. tp.protocol.reply_frame x.claims.own a (tp.protocol.timeout_reply timed.session)) (x.places a).tp)) in
    let second = timeouts-few t (λ b. is_overdue ETP_TIMEOUT t.now (t.places b).etp) EtpExpires
    (λ x a. frames-few a 1 (outcome x.now a (part a x) EtpExpires) refl (option-few (λ timed. etp.protocol.reply_frame x.claims.own a (etp.protocol.timeout_reply timed.session)) (x.places a).etp)) in
    let third = timeouts-few u (λ b. is_overdue SENDER_TIMEOUT u.now (u.places b).sending) SendingExpires
    (λ x a. frames-few a 1 (outcome x.now a (part a x) SendingExpires) refl (option-few (λ timed. timeout_frame x.claims.own a timed.session) (x.places a).sending)) in
    let all = length-append (sent_by_acts s (tp_due s)) (sent_by_acts t (etp_due t) ++ sent_by_acts u (sending_due u)) in
    let both = length-append (sent_by_acts t (etp_due t)) (sent_by_acts u (sending_due u)) in
    omega arith

-- ---- the end of a step

status-few : (own : ℕ) (was now : ShownMasks) → length (status own was now) ≤ 1
status-few own was now = cases (same_display was now)
  where
    cases : (b : Bool) → length (cond b [] (ToAll (status_frame own now) ∷ [])) ≤ 1
    cases true = omega arith
    cases false = omega arith

shown_update-few : (old s : State) → length (sent_by_shown_update old s) ≤ 1
unfolding sent_by_shown_update
shown_update-few old s =
    let hs = events_of_change s.shown (shown_now s) in
    let both = length-append (sent_by_acts (choosing s) hs) (status s.claims.own (display old) (display (with_shown_updated s))) in
    let none = acts-none (choosing s) hs (at-change (λ a h. SendsFew 0 h) (λ a event x b. omega arith) s.shown (shown_now s)) in
    let last = status-few s.claims.own (display old) (display (with_shown_updated s)) in
    omega arith

-- ---- a frame

claim-few : (b : Bool) (x : Sent) → length (cond b (x ∷ []) []) ≤ 1
claim-few true x = omega arith
claim-few false x = omega arith

heard-few : (s : State) (b : Bool) (a : ℕ) (h : Act) → SendsFew 255 h → length (sent_by_acts s (cond b [] ((a, h) ∷ []))) ≤ 255
heard-few s true a h few = omega arith
heard-few s false a h few =
    let both = length-append (sent_by_act s a h) [] in
    let first = act-few 255 h s a few in
    omega arith

module _ (old s : State) (source : ℕ) (f : Frame) (verdict : Verdict) (small : slice_index f.bytes.items 1 < 256) where
  -- A claim or a claim request is answered to all alone.
  answered-few : (n : FrameMeaning) → SendsFew 0 (Hears n f verdict) → length (acting old s source n f verdict).sent ≤ 2
  answered-few n none =
      let t = before s source n in
      let hs = acts s source n f verdict in
      let all = length-append (defence s source n ++ sent_by_acts t hs) (sent_by_shown_update old (after_acts t hs)) in
      let both = length-append (defence s source n) (sent_by_acts t hs) in
      let first = claim-few (is_defended n (answer_to s source n)) (ToAll (claim_from s.claims.own s.claims.name)) in
      let second = acts-none t hs (at-append (λ a h. SendsFew 0 h) (changes s source n) (heard_at_source s.claims.own source n f verdict)
      (at-changes (λ a h. SendsFew 0 h) (λ a x b. change-none b (part b x) (part b x).set) s source n)
      (at-heard (λ a h. SendsFew 0 h) s.claims.own source n f verdict none)) in
      let last = shown_update-few old (after_acts t hs) in
      omega arith

  -- Any other frame is answered to its source alone.
  source-few : (n : FrameMeaning) → defence s source n ≡ [] → changes s source n ≡ [] → length (acting old s source n f verdict).sent ≤ 256
  source-few n no-claim no-change =
      let t = before s source n in
      let hs = acts s source n f verdict in
      let all = length-append (defence s source n ++ sent_by_acts t hs) (sent_by_shown_update old (after_acts t hs)) in
      let both = length-append (defence s source n) (sent_by_acts t hs) in
      let first : length (defence s source n) ≡ 0 = ap (λ (l : List Sent). length l) no-claim in
      let second : length (sent_by_acts t hs) ≤ 255 =
      subst (λ (l : List (ℕ × Act)). length (sent_by_acts t (l ++ heard_at_source s.claims.own source n f verdict)) ≤ 255) (sym no-change)
      (heard-few t (eqb source s.claims.own) source (Hears n f verdict) (λ x a. meaning-few x.now a (record (part a x) { place = heard_at x.now (x.places a) }) f verdict small n)) in
      let last = shown_update-few old (after_acts t hs) in
      omega arith

  acting-few : (n : FrameMeaning) → length (acting old s source n f verdict).sent ≤ 256
  acting-few (Claim name) = let few = answered-few (Claim name) (λ x a. claim-none a (record (part a x) { place = heard_at x.now (x.places a) }) (part a x).set) in omega arith
  acting-few ClaimRequest = let few = answered-few ClaimRequest (λ x a. silent-none a (record (part a x) { place = heard_at x.now (x.places a) }) verdict (part a x).set) in omega arith
  acting-few (Master count) = source-few (Master count) refl refl
  acting-few (Member name) = source-few (Member name) refl refl
  acting-few Message = source-few Message refl refl
  acting-few Tp = source-few Tp refl refl
  acting-few Etp = source-few Etp refl refl
  acting-few Nothing = source-few Nothing refl refl

  hearing-few : (n : FrameMeaning) (b : Bool) → length (cond b (losing s) (acting old s source n f verdict)).sent ≤ 256
  hearing-few n true = omega arith
  hearing-few n false = acting-few n

frame-few : (s : State) (time : ℕ) (f : Frame) (verdict : Verdict) → slice_index f.bytes.items 1 < 256 → length (step_frame s time f verdict).sent ≤ 1024
frame-few s time f verdict small =
    let t = at_time s time in
    let n = meaning_of s.claims.own s.claims.name f in
    let first = lapses-few t in
    let second = hearing-few s (lapsed t) (source_of f) f verdict small n (is_lost_by (answer_to (lapsed t) (source_of f) n)) in
    let both = length-append (sent_by_lapses t) (cond (is_lost_by (answer_to (lapsed t) (source_of f) n)) (losing (lapsed t)) (acting s (lapsed t) (source_of f) n f verdict)).sent in
    omega arith

-- ---- an action, and every step

no_set-few : (b : Bool) → length (no_set b) ≤ 1
no_set-few true = omega arith
no_set-few false = omega arith

shown-few : (s : State) (o : Option ℕ) (h : Act) → SendsFew 1 h → length (sent_by_acts s (at_shown o h)) ≤ 1
shown-few s None h few = omega arith
shown-few s (Some a) h few =
    let both = length-append (sent_by_act s a h) [] in
    let first = act-few 1 h s a few in
    omega arith

action-sent-few : (s : State) (action : ActionValue) (shown : Bool) → length (step_action s action shown).sent ≤ 3
action-sent-few s action shown =
    let u = selecting s action in
    let hs = at_shown s.shown (Operates action shown) in
    let first = no_set-few (has_no_set s action) in
    let second = shown-few u s.shown (Operates action shown) (λ x a. operator-few x.now a (part a x) action shown (x.places a).content.pool) in
    let last = shown_update-few s (after_acts u hs) in
    let all = length-append (no_set (has_no_set s action) ++ sent_by_acts u hs) (sent_by_shown_update s (after_acts u hs)) in
    let both = length-append (no_set (has_no_set s action)) (sent_by_acts u hs) in
    omega arith

pub step-few : (s : State) (e : JudgedInput) → HasByte e → length (step s e).sent ≤ 1024
step-few s (FrameAt time f verdict) small = cases s.lost
  where
    cases : (b : Bool) → length (cond b (no_step s) (step_frame s time f verdict)).sent ≤ 1024
    cases true = omega arith
    cases false = frame-few s time f verdict small
step-few s (ActionAt action shown) small = cases s.lost
  where
    cases : (b : Bool) → length (cond b (no_step s) (step_action s action shown)).sent ≤ 1024
    cases true = omega arith
    cases false = let few = action-sent-few s action shown in omega arith
