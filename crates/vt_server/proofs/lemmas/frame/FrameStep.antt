-- The handling of a frame, from the work done in advance to the end of its step.
use Rattle.std.proofs.Common.{◌≡◌, ◌<◌, ℕ, Bool, true, false, cond, List, [], ◌++◌, Option, Some, None, is_some, inl, inr, true≢false, refl, sym, ap, subst, ◌∙◌, append_assoc, append-nil}
use Rattle.vt_can.specs.declared.frames.frame.Frame.{Frame}
use Rattle.vt_can.specs.frames.Frame.{source_of}
use Rattle.vt_can.specs.transport.Receivers.{HasCapacityFor}
use Rattle.vt_names.specs.Claims.{Claimed}
use Rattle.vt_names.specs.Registry.{Set, set_at, registering, joining, mastered, with_member, has_place, with_set}
use Rattle.vt_transport.specs.Protocol as tp
use Rattle.vt_transport.specs.Wire.{tp_frame}
use Rattle.vt_extended.specs.Protocol as etp
use Rattle.vt_extended.specs.Wire.{etp_frame}
use Rattle.vt_node.specs.Bus.{meaning_of}
use Rattle.vt_server.specs.Judgements.{IsJudged, ends_transfer}
use Rattle.vt_server.specs.frame.FrameContracts.{FitsMessage, FitsOneFrame, FitsCompleted, FitsMeaning, HasCapacity, HasUpload, IsNoClaim, AppliesMeaning, TakesFrame, TakesClaim, FinishesFrame, timely, message_by}
use Rattle.vt_server.specs.frame.HoldersBeforeClaim.{AreFormer}
use Rattle.vt_server.specs.frame.TimeoutActs.{at_time, lapsed, sent_by_lapses}
use Rattle.vt_server.specs.Outputs.{outputs_of, frames_of}
use Rattle.vt_server.specs.state.AddressViews.{AddressView, AddressOutcome, unchanged, after_message, after_master, after_member, after_meaning, with_frames_first, with_other_set}
use Rattle.vt_node.specs.Registries.{Watched}
use Rattle.vt_server.specs.state.AddressStates.{SetPool, AddressState, heard_at}
use Rattle.vt_node.specs.ReceiverResults.{taken}
use Rattle.vt_server.specs.frame.TimeoutContracts.{HasLapsed}
use Rattle.vt_server.specs.frame.SessionEffects.{came, message_to_terminal}
use Rattle.vt_server.specs.States.{state_of, places_by, TakesInput}
use Rattle.vt_server.specs.Steps as steps
use Rattle.vt_server.specs.Steps.{FrameAt, Step, answer_to, is_lost_by, is_defended, defence, losing, acted, acting, sent_by_frame, sent_by_shown_update, with_shown_updated, hearing, step_frame, no_step}
use Rattle.vt_server.specs.Terminals.{State, part, put}
use Rattle.vt_node.specs.AddressFunctions.{with_at}
use Rattle.vt_server.specs.message.Verdicts.{Verdict, IsVerdict}
use Rattle.vt_server.specs.state.PoolTables.{content_of, spare_of}
use Rattle.vt_node.specs.Watches.{heard_of}
use Rattle.vt_node.specs.declared.bus.FrameMeaning.{FrameMeaning}
use Rattle.vt_node.specs.declared.bus.FrameMeaning.TheVariants as meanings
use Rattle.vt_server.specs.declared.frame.claim.FormerHolders.{FormerHolders}
use Rattle.vt_server.specs.declared.input.Input.TheVariants as inputs
use Rattle.vt_server.specs.declared.output.Output.{Output}
use Rattle.vt_server.specs.declared.terminal.Terminal.{Terminal}
use Rattle.vt_server.specs.declared.message.upload.PreparedMessage.{PreparedMessage}
use Rattle.vt_server.specs.declared.message.upload.PreparedMessage.TheVariants as uploads
use Rattle.vt_server.proofs.lemmas.message.EffectsAndReplies.{piece-ends_none, other-ends_none}
use Rattle.vt_server.proofs.lemmas.frame.FrameEffect.{any_verdict, outputs-append, with_place_at}
use Rattle.vt_server.proofs.lemmas.state.WritesByAddress.{put-kept, put-set, heard-placed}

-- ---- no message

pub none-left : (a : ℕ) (p : AddressView) (v : Verdict) (o : Option Set) → after_message a p v o None ≡ unchanged p
none-left a p v None = refl
none-left a p v (Some set) = refl

pub none-ends : (o : Option Set) → ends_transfer o None ≡ true → (P : Type 0) → P
none-ends None ends P = absurd (true≢false (sym ends))
none-ends (Some set) ends P = absurd (true≢false (sym ends))

-- a frame that is a claim request or has no meaning
abbrev pub IsIdle : FrameMeaning → Type 0
IsIdle meanings.ClaimRequest = Unit {0}
IsIdle meanings.Nothing = Unit {0}
IsIdle meaning = ⊥

pub takes-nothing : (s : State) (n : FrameMeaning) (frame : Frame) (outputs : List Output) → IsIdle n → AppliesMeaning s n frame s outputs outputs
takes-nothing s n frame outputs idle = record {
  verdict = any_verdict;
  judged = judged n idle;
  state = sym (ap (λ (o : AddressOutcome). put a o s) (left n idle) ∙ put-kept a s (unchanged p) refl refl);
  sent = sym (ap (λ (o : AddressOutcome). outputs ++ frames_of o.frames) (left n idle) ∙ append-nil outputs);
}
  where
    a : ℕ
    a = source_of frame

    p : AddressView
    p = part a s

    left : (n : FrameMeaning) → IsIdle n → after_meaning s.now a p n frame any_verdict ≡ unchanged p
    left meanings.ClaimRequest _ = ap (with_frames_first []) (none-left a p any_verdict p.set)
    left meanings.Nothing _ = ap (with_frames_first []) (none-left a p any_verdict p.set)
    left (meanings.Claim name) is = absurd is
    left (meanings.Master count) is = absurd is
    left (meanings.Member name) is = absurd is
    left meanings.Message is = absurd is
    left meanings.Tp is = absurd is
    left meanings.Etp is = absurd is

    judged : (n : FrameMeaning) → IsIdle n → IsJudged s.now a p n frame any_verdict
    judged meanings.ClaimRequest _ = λ ends. none-ends p.set ends (IsVerdict p.place.content any_verdict)
    judged meanings.Nothing _ = λ ends. none-ends p.set ends (IsVerdict p.place.content any_verdict)
    judged (meanings.Claim name) is = absurd is
    judged (meanings.Master count) is = absurd is
    judged (meanings.Member name) is = absurd is
    judged meanings.Message is = absurd is
    judged meanings.Tp is = absurd is
    judged meanings.Etp is = absurd is

-- A frame that is not a claim, a registration or a message is idle.
pub idle-by : (n : FrameMeaning) → IsNoClaim n → ((count : ℕ) → n ≡ meanings.Master count → ⊥) → ((name : ℕ) → n ≡ meanings.Member name → ⊥)
    → (n ≡ meanings.Message → ⊥) → (n ≡ meanings.Tp → ⊥) → (n ≡ meanings.Etp → ⊥) → IsIdle n
idle-by (meanings.Claim name) claim master member message tp etp = absurd (claim name refl)
idle-by meanings.ClaimRequest claim master member message tp etp = tt
idle-by (meanings.Master count) claim master member message tp etp = absurd (master count refl)
idle-by (meanings.Member name) claim master member message tp etp = absurd (member name refl)
idle-by meanings.Message claim master member message tp etp = absurd (message refl)
idle-by meanings.Tp claim master member message tp etp = absurd (tp refl)
idle-by meanings.Etp claim master member message tp etp = absurd (etp refl)
idle-by meanings.Nothing claim master member message tp etp = tt

pub request-unclaimed : IsNoClaim meanings.ClaimRequest
request-unclaimed name e = subst IsIdle e tt

-- A frame that is neither a claim nor a claim request is not answered with the terminal's claim.
pub defence-none : (s : State) (a : ℕ) (n : FrameMeaning) → IsNoClaim n → (n ≡ meanings.ClaimRequest → ⊥) → defence s a n ≡ []
defence-none s a (meanings.Claim name) unclaimed other = absurd (unclaimed name refl)
defence-none s a meanings.ClaimRequest unclaimed other = absurd (other refl)
defence-none s a (meanings.Master count) unclaimed other = refl
defence-none s a (meanings.Member name) unclaimed other = refl
defence-none s a meanings.Message unclaimed other = refl
defence-none s a meanings.Tp unclaimed other = refl
defence-none s a meanings.Etp unclaimed other = refl
defence-none s a meanings.Nothing unclaimed other = refl

-- A frame changes the time of the last frame of its source.
pub heard-state : (t : Terminal) (registry : Watched) (a b : ℕ) → a ≡ b → registry.sets ≡ t.registry.sets
    → heard_of registry.watch ≡ with_at a (Some t.time) (heard_of t.registry.watch)
    → state_of (record t { registry = registry }) ≡ with_place_at b (heard_at t.time ((state_of t).places b)) (state_of t)
heard-state t registry a b is sets left =
    (λ i. record (state_of t) { sets = sets i; places = places_by (content_of t.contents) t.node (heard_of registry.watch) })
    ∙ ap (λ (places : ℕ → AddressState). record (state_of t) { places = places })
    (ap (places_by (content_of t.contents) t.node) (left ∙ ap (λ c. with_at c (Some t.time) (heard_of t.registry.watch)) is)
    ∙ heard-placed (content_of t.contents) t.node (heard_of t.registry.watch) b (Some t.time))

-- ---- registration

master-put : (s : State) (a count : ℕ) (o : Option ℕ) → record s { sets = registering a o count s.sets } ≡ put a (after_master a (part a s) o count) s
master-put s a count None = sym (put-kept a s (unchanged (part a s)) refl refl)
master-put s a count (Some h) = sym (put-set a s (with_other_set (part a s) (Some (mastered a h count))) refl)

pub master-state : (s : State) (a count : ℕ) (o h : Option ℕ) (sets : List Set) → o ≡ h → sets ≡ registering a o count s.sets
    → record s { sets = sets } ≡ put a (after_master a (part a s) h count) s
master-state s a count o h sets is e =
    ap (λ (l : List Set). record s { sets = l }) (e ∙ ap (λ (x : Option ℕ). registering a x count s.sets) is) ∙ master-put s a count h

pub takes-master : (s t : State) (count : ℕ) (frame : Frame) (outputs : List Output)
    → t ≡ put (source_of frame) (after_master (source_of frame) (part (source_of frame) s) (part (source_of frame) s).holder count) s
    → AppliesMeaning s (meanings.Master count) frame t outputs outputs
takes-master s t count frame outputs is = record {
  verdict = any_verdict;
  judged = λ ends. none-ends (part a s).set ends (IsVerdict (s.places a).content any_verdict);
  state = is;
  sent = sym (ap (λ l. outputs ++ frames_of l) (silent (part a s).holder) ∙ append-nil outputs);
}
  where
    a : ℕ
    a = source_of frame

    silent : (o : Option ℕ) → (after_master a (part a s) o count).frames ≡ []
    silent None = refl
    silent (Some h) = refl

member-put : (s : State) (a name : ℕ) (o : Option Set) → o ≡ set_at a s.sets
    → record s { sets = joining o name s.sets } ≡ put a (after_member (part a s) o name) s
member-put s a name None is = sym (put-kept a s (unchanged (part a s)) refl refl)
member-put s a name (Some set) is = cases (has_place set)
  where
    cases : (b : Bool) → record s { sets = cond b (with_set (with_member set name) s.sets) s.sets }
        ≡ put a (with_other_set (part a s) (Some (cond b (with_member set name) set))) s
    cases true = sym (put-set a s (with_other_set (part a s) (Some (with_member set name))) refl)
    cases false = sym (put-kept a s (with_other_set (part a s) (Some set)) is refl)

pub takes-member : (s : State) (name : ℕ) (frame : Frame) (outputs : List Output) (sets : List Set)
    → sets ≡ joining (set_at (source_of frame) s.sets) name s.sets
    → AppliesMeaning s (meanings.Member name) frame (record s { sets = sets }) outputs outputs
takes-member s name frame outputs sets is = record {
  verdict = any_verdict;
  judged = λ ends. none-ends (part a s).set ends (IsVerdict (s.places a).content any_verdict);
  state = ap (λ (l : List Set). record s { sets = l }) is ∙ member-put s a name (set_at a s.sets) refl;
  sent = sym (ap (λ l. outputs ++ frames_of l) (silent (part a s).set) ∙ append-nil outputs);
}
  where
    a : ℕ
    a = source_of frame

    silent : (o : Option Set) → (after_member (part a s) o name).frames ≡ []
    silent None = refl
    silent (Some set) = refl

-- ---- the work done in advance judges the upload that a message ends

now-with : (content : SetPool) (spare : ℕ) (bytes : List ℕ) (upload : PreparedMessage) → FitsOneFrame content spare bytes upload → FitsMessage content spare bytes upload
now-with content spare bytes uploads.Nothing is = is
now-with content spare bytes uploads.Capacity is = absurd is
now-with content spare bytes (uploads.Piece piece) is = is
now-with content spare bytes (uploads.End judgement) is = is

pub by-message : (n : FrameMeaning) (content : SetPool) (spare now own a : ℕ) (place : AddressState) (frame : Frame) (upload : PreparedMessage)
    → FitsMeaning n content spare (came now own a place n frame).message upload → FitsCompleted content spare (came now own a place n frame).message upload
by-message (meanings.Claim name) content spare now own a place frame upload is = tt
by-message meanings.ClaimRequest content spare now own a place frame upload is = tt
by-message (meanings.Master count) content spare now own a place frame upload is = tt
by-message (meanings.Member name) content spare now own a place frame upload is = tt
by-message meanings.Message content spare now own a place frame upload is = now-with content spare frame.bytes.items upload is
by-message meanings.Tp content spare now own a place frame upload is = is
by-message meanings.Etp content spare now own a place frame upload is = is
by-message meanings.Nothing content spare now own a place frame upload is = tt

ready-judges : (o : Option Set) (m : Option (List ℕ)) (content : SetPool) (spare : ℕ) (upload : PreparedMessage)
    → (is_some o ≡ true → FitsCompleted content spare m upload) → (v : Verdict) × (ends_transfer o m ≡ true → IsVerdict content v)
ready-judges None m content spare upload ready = (any_verdict, λ ends. absurd (true≢false (sym ends)))
ready-judges (Some set) None content spare upload ready = (any_verdict, λ ends. absurd (true≢false (sym ends)))
ready-judges (Some set) (Some bytes) content spare upload ready = cases upload (ready refl)
  where
    cases : (u : PreparedMessage) → FitsMessage content spare bytes u → (v : Verdict) × (ends_transfer (Some set) (Some bytes) ≡ true → IsVerdict content v)
    cases uploads.Nothing is = (any_verdict, λ ends. other-ends_none (Some set) bytes is ends (IsVerdict content any_verdict))
    cases uploads.Capacity is = (any_verdict, λ ends. piece-ends_none (Some set) bytes is.0 ends (IsVerdict content any_verdict))
    cases (uploads.Piece piece) is = (any_verdict, λ ends. piece-ends_none (Some set) bytes is.0 ends (IsVerdict content any_verdict))
    cases (uploads.End judgement) is = (is.1.verdict, λ ends. is.1.right)

pub upload-judges : (t : Terminal) (n : FrameMeaning) (frame : Frame) (upload : PreparedMessage) → HasUpload t n frame upload
    → (v : Verdict) × IsJudged t.time (source_of frame) (part (source_of frame) (state_of t)) n frame v
upload-judges t n frame upload has =
    let a = source_of frame in
    ready-judges (set_at a t.registry.sets) (message_by t t.time ((state_of t).places a) n frame) (content_of t.contents a) (spare_of t.contents a) upload
    (λ some. by-message n (content_of t.contents a) (spare_of t.contents a) t.time t.node.claims.own a ((state_of t).places a) frame upload (has some))

-- ---- the message of a frame depends on the sessions of its source alone

pub came-reads : (now own a : ℕ) (p q : AddressState) (n : FrameMeaning) (frame : Frame) → p.tp ≡ q.tp → p.etp ≡ q.etp
    → (came now own a p n frame).message ≡ (came now own a q n frame).message
came-reads now own a p q (meanings.Claim name) frame d e = refl
came-reads now own a p q meanings.ClaimRequest frame d e = refl
came-reads now own a p q (meanings.Master count) frame d e = refl
came-reads now own a p q (meanings.Member name) frame d e = refl
came-reads now own a p q meanings.Message frame d e = refl
came-reads now own a p q meanings.Tp frame d e = ap (λ x. message_to_terminal (taken tp.protocol now own a x frame).message) d
came-reads now own a p q meanings.Etp frame d e = ap (λ x. message_to_terminal (taken etp.protocol now own a x frame).message) e
came-reads now own a p q meanings.Nothing frame d e = refl

-- The work done in advance stays right for a terminal with the same sessions, content and capacity.
module _ (t u : Terminal) (n : FrameMeaning) (frame : Frame) where
  abbrev a : ℕ
  a = source_of frame

  pub capacity-kept : u.node.claims ≡ t.node.claims → u.node.tp_spare ≡ t.node.tp_spare → u.node.etp_spare ≡ t.node.etp_spare
      → (0 < t.registry.capacity → 0 < u.registry.capacity) → HasCapacity t n frame → HasCapacity u n frame
  capacity-kept claims tp_spare etp_spare sets has = record {
    tp = λ is. subst (λ (x : Claimed × ℕ). HasCapacityFor tp.protocol (tp_frame x.0.own frame) x.1) (λ i. (sym claims i, sym tp_spare i)) (has.tp is);
    etp = λ is. subst (λ (x : Claimed × ℕ). HasCapacityFor etp.protocol (etp_frame x.0.own frame) x.1) (λ i. (sym claims i, sym etp_spare i)) (has.etp is);
    sets = λ count is. sets (has.sets count is);
  }

  pub upload-kept : (now : ℕ) (place : AddressState) (upload : PreparedMessage) → u.node.claims ≡ t.node.claims → u.time ≡ now
      → ((state_of u).places a).tp ≡ place.tp → ((state_of u).places a).etp ≡ place.etp
      → content_of u.contents a ≡ content_of t.contents a → spare_of u.contents a ≡ spare_of t.contents a
      → FitsMeaning n (content_of t.contents a) (spare_of t.contents a) (message_by t now place n frame) upload
      → FitsMeaning n (content_of u.contents a) (spare_of u.contents a) (message_by u u.time ((state_of u).places a) n frame) upload
  upload-kept now place upload claims time d e content spare is =
      let message : message_by t now place n frame ≡ message_by u u.time ((state_of u).places a) n frame =
      (λ i. (came (sym time i) (sym claims i).own a place n frame).message)
      ∙ sym (came-reads u.time u.node.claims.own a ((state_of u).places a) place n frame d e) in
      subst (λ (x : SetPool × (ℕ × Option (List ℕ))). FitsMeaning n x.0 x.1.0 x.1.1 upload) (λ i. (sym content i, (sym spare i, message i))) is

-- The upload stays right after the timeouts and closings of the frame's time.
pub lapsed-upload : (t u : Terminal) (n : FrameMeaning) (frame : Frame) (now : ℕ) (upload : PreparedMessage) → HasLapsed t u now → u.time ≡ now
    → FitsMeaning n (content_of t.contents (source_of frame)) (spare_of t.contents (source_of frame))
    (message_by t now (timely now ((state_of t).places (source_of frame))) n frame) upload
    → HasUpload u n frame upload
lapsed-upload t u n frame now upload ended time is some =
    let a = source_of frame in elim (ended.uploads a) as (λ _. FitsMeaning n (content_of u.contents a) (spare_of u.contents a) (message_by u u.time ((state_of u).places a) n frame) upload) [
      | inl none ↦ absurd (true≢false (sym some ∙ ap is_some none))
      | inr kept ↦ upload-kept t u n frame now (timely now ((state_of t).places a)) upload ended.claims time (ended.tp a) (ended.etp a) kept.0 kept.1 is
    ]

-- ---- the frame in the step

no-loss : (s : State) (a : ℕ) (n : FrameMeaning) → IsNoClaim n → is_lost_by (answer_to s a n) ≡ false
no-loss s a (meanings.Claim name) unclaimed = absurd (unclaimed name refl)
no-loss s a meanings.ClaimRequest unclaimed = refl
no-loss s a (meanings.Master count) unclaimed = refl
no-loss s a (meanings.Member name) unclaimed = refl
no-loss s a meanings.Message unclaimed = refl
no-loss s a meanings.Tp unclaimed = refl
no-loss s a meanings.Etp unclaimed = refl
no-loss s a meanings.Nothing unclaimed = refl

claim-judged : (s : State) (a : ℕ) (frame : Frame) (n : FrameMeaning) → is_lost_by (answer_to s a n) ≡ true → IsJudged s.now a (part a s) n frame any_verdict
claim-judged s a frame (meanings.Claim name) lost = λ ends. none-ends (part a s).set ends (IsVerdict (s.places a).content any_verdict)
claim-judged s a frame meanings.ClaimRequest lost = absurd (true≢false (sym lost))
claim-judged s a frame (meanings.Master count) lost = absurd (true≢false (sym lost))
claim-judged s a frame (meanings.Member name) lost = absurd (true≢false (sym lost))
claim-judged s a frame meanings.Message lost = absurd (true≢false (sym lost))
claim-judged s a frame meanings.Tp lost = absurd (true≢false (sym lost))
claim-judged s a frame meanings.Etp lost = absurd (true≢false (sym lost))
claim-judged s a frame meanings.Nothing lost = absurd (true≢false (sym lost))

module _ (old s : State) (n : FrameMeaning) (frame : Frame) where
  abbrev from : ℕ
  from = source_of frame

  pub hears-loss : (t : State) (before after : List Output) → is_lost_by (answer_to s from n) ≡ true
      → t ≡ (losing s).after → after ≡ before ++ outputs_of (losing s).sent → FinishesFrame old s n frame t before after
  hears-loss t before after lost left sent =
      let is : hearing old s from n frame any_verdict ≡ losing s = ap (λ b. cond b (losing s) (acting old s from n frame any_verdict)) lost in record {
        verdict = any_verdict;
        judged = claim-judged s from frame n lost;
        state = left ∙ sym (ap (λ (x : Step). x.after) is);
        sent = sent ∙ ap (λ (x : Step). before ++ outputs_of x.sent) (sym is);
      }

  pub hears-acts : (v : Verdict) (u t : State) (before middle after : List Output) → is_lost_by (answer_to s from n) ≡ false
      → IsJudged s.now from (part from s) n frame v
      → u ≡ acted s from n frame v → middle ≡ before ++ outputs_of (sent_by_frame s from n frame v)
      → t ≡ with_shown_updated u → after ≡ middle ++ outputs_of (sent_by_shown_update old u) → FinishesFrame old s n frame t before after
  hears-acts v u t before middle after kept judged first sent left rest =
      let is : hearing old s from n frame v ≡ acting old s from n frame v = ap (λ b. cond b (losing s) (acting old s from n frame v)) kept in record {
        verdict = v;
        judged = judged;
        state = left ∙ ap with_shown_updated first ∙ sym (ap (λ (x : Step). x.after) is);
        sent =
            rest ∙ (λ i. sent i ++ outputs_of (sent_by_shown_update old (first i)))
            ∙ append_assoc before (outputs_of (sent_by_frame s from n frame v)) (outputs_of (sent_by_shown_update old (acted s from n frame v)))
            ∙ ap (λ l. before ++ l) (sym (outputs-append (sent_by_frame s from n frame v) (sent_by_shown_update old (acted s from n frame v))))
            ∙ ap (λ (x : Step). before ++ outputs_of x.sent) (sym is);
      }

  -- A recorded claim has its effect.
  pub claim-takes : (u t : State) (q name : ℕ) (former : FormerHolders) (outputs after : List Output) → TakesClaim former q u t outputs after → q ≡ from
      → n ≡ meanings.Claim name → AreFormer s from name former → former.is_defended ≡ is_defended n (answer_to s from n) → u ≡ steps.before s from n
      → (t ≡ acted s from (meanings.Claim name) frame any_verdict) × (after ≡ outputs ++ outputs_of (sent_by_frame s from (meanings.Claim name) frame any_verdict))
  claim-takes u t q name former outputs after takes at is are defended recorded =
      subst (λ a. TakesClaim former a u t outputs after) at takes s name frame any_verdict refl are
      (defended ∙ ap (λ m. is_defended m (answer_to s from m)) is) (recorded ∙ ap (steps.before s from) is)

  -- The step of a frame that is a claim.
  pub hears-claim : (name : ℕ) (u t : State) (before middle after : List Output) → n ≡ meanings.Claim name → is_lost_by (answer_to s from n) ≡ false
      → (u ≡ acted s from (meanings.Claim name) frame any_verdict) × (middle ≡ before ++ outputs_of (sent_by_frame s from (meanings.Claim name) frame any_verdict))
      → t ≡ with_shown_updated u → after ≡ middle ++ outputs_of (sent_by_shown_update old u) → FinishesFrame old s n frame t before after
  hears-claim name u t before middle after is kept takes left rest =
      hears-acts any_verdict u t before middle after kept
      (subst (λ m. IsJudged s.now from (part from s) m frame any_verdict) (sym is) (λ ends. none-ends (part from s).set ends (IsVerdict (s.places from).content any_verdict)))
      (takes.0 ∙ ap (λ m. acted s from m frame any_verdict) (sym is)) (takes.1 ∙ ap (λ m. before ++ outputs_of (sent_by_frame s from m frame any_verdict)) (sym is)) left rest

  -- The step of a frame that is not a claim.
  pub hears-other : (r u t : State) (before middle after : List Output) → IsNoClaim n → r ≡ s → TakesFrame r n frame u before middle
      → t ≡ with_shown_updated u → after ≡ middle ++ outputs_of (sent_by_shown_update old u) → FinishesFrame old s n frame t before after
  hears-other r u t before middle after unclaimed same takes left rest =
      let it : TakesFrame s n frame u before middle = subst (λ x. TakesFrame x n frame u before middle) same takes in
      hears-acts it.verdict u t before middle after (no-loss s from n unclaimed) it.judged it.state it.sent left rest

-- ---- the step of a frame

module _ (s : State) (time : ℕ) (frame : Frame) where
  pub takes-line : (n : FrameMeaning) (t : State) (before middle after : List Output) → s.lost ≡ false → n ≡ meaning_of s.claims.own s.claims.name frame
      → middle ≡ before ++ outputs_of (sent_by_lapses (at_time s time))
      → FinishesFrame s (lapsed (at_time s time)) n frame t middle after → TakesInput s (inputs.Frame time frame) t before after
  takes-line n t before middle after kept is sent hears =
      let v = hears.verdict in
      let u = lapsed (at_time s time) in
      let whole = ap (λ b. cond b (no_step s) (step_frame s time frame v)) kept in record {
        event = FrameAt time frame v;
        is_input = (refl, refl);
        judged = λ _. subst (λ m. IsJudged u.now (source_of frame) (part (source_of frame) u) m frame v) is hears.judged;
        state = hears.state ∙ ap (λ m. (hearing s u (source_of frame) m frame v).after) is ∙ sym (ap (λ (x : Step). x.after) whole);
        sent =
            hears.sent ∙ ap (λ m. middle ++ outputs_of (hearing s u (source_of frame) m frame v).sent) is
            ∙ ap (λ l. l ++ outputs_of (hearing s u (source_of frame) (meaning_of s.claims.own s.claims.name frame) frame v).sent) sent
            ∙ append_assoc before (outputs_of (sent_by_lapses (at_time s time))) (outputs_of (hearing s u (source_of frame) (meaning_of s.claims.own s.claims.name frame) frame v).sent)
            ∙ ap (λ l. before ++ l)
            (sym (outputs-append (sent_by_lapses (at_time s time)) (hearing s u (source_of frame) (meaning_of s.claims.own s.claims.name frame) frame v).sent))
            ∙ ap (λ (x : Step). before ++ outputs_of x.sent) (sym whole);
      }

  pub takes-lost : (outputs : List Output) → s.lost ≡ true → TakesInput s (inputs.Frame time frame) s outputs outputs
  takes-lost outputs lost =
      let whole = ap (λ b. cond b (no_step s) (step_frame s time frame any_verdict)) lost in record {
        event = FrameAt time frame any_verdict;
        is_input = (refl, refl);
        judged = λ kept. absurd (true≢false (sym lost ∙ kept));
        state = sym (ap (λ (x : Step). x.after) whole);
        sent = sym (ap (λ (x : Step). outputs ++ outputs_of x.sent) whole ∙ append-nil outputs);
      }
