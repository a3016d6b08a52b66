-- The effect of a frame on the view of its source address, and the frames sent.
use Rattle.std.proofs.Common.{◌≡◌, ◌≢◌, ℕ, cond, List, [], ◌∷◌, ◌++◌, map, Option, None, refl, sym, ap, subst, ◌∙◌, eq-eqb, ne_eqb, append_assoc, append-nil}
use Rattle.std.proofs.lemmas.List.{map-append}
use Rattle.std.specs.Option.{option_to_list}
use Rattle.vt_can.specs.declared.frames.frame.Frame.{Frame}
use Rattle.vt_can.specs.frames.Frame.{source_of}
use Rattle.vt_names.specs.Registry.{set_at}
use Rattle.vt_server.specs.Judgements.{IsJudged, ends_transfer}
use Rattle.vt_server.specs.frame.FrameContracts.{Handles, AppliesMeaning, TakesFrame, IsNoClaim}
use Rattle.vt_server.specs.Outputs.{frames_of, outputs_of}
use Rattle.vt_server.specs.state.AddressViews.{AddressView, AddressOutcome, Hears, after_message, after_came, after_meaning, with_frames_first}
use Rattle.vt_server.specs.state.AddressStates.{AddressState, heard_at}
use Rattle.vt_server.specs.frame.SessionEffects.{Came, came}
use Rattle.vt_server.specs.Steps.{acted, sent_by_frame, defence, heard_at_source}
use Rattle.vt_server.specs.Terminals.{State, Sent, ToOne, part, put, sent_refusal, to_address, after_acts, sent_by_act, sent_by_acts}
use Rattle.vt_node.specs.AddressFunctions.{with_at}
use Rattle.vt_server.specs.message.Verdicts.{Verdict, Faulty, IsVerdict}
use Rattle.vt_records.specs.declared.fault.PoolFault.TheVariants as faults
use Rattle.vt_node.specs.declared.bus.FrameMeaning.{FrameMeaning}
use Rattle.vt_node.specs.declared.bus.FrameMeaning.TheVariants as meanings
use Rattle.vt_server.specs.declared.output.Output.{Output}
use Rattle.vt_server.specs.declared.output.Output.TheVariants as declared
use Rattle.vt_server.proofs.lemmas.acts.ComposedActs.{act-is, sent_by_one-is}
use Rattle.vt_node.proofs.ByAddress.{at-own}
use Rattle.vt_node.proofs.ByAddress.{places-twice}

-- a verdict for inputs that need none
pub any_verdict : Verdict
any_verdict = Faulty (faults.Truncated 0)

pub frames-append : (xs ys : List Frame) → frames_of (xs ++ ys) ≡ frames_of xs ++ frames_of ys
frames-append xs ys = map-append _ xs ys

-- ---- two writes to the state of one address

abbrev pub with_place_at : ℕ → AddressState → State → State
with_place_at a place s = record s { places = with_at a place s.places }

pub part-at : (a : ℕ) (place : AddressState) (s : State) → part a (with_place_at a place s) ≡ record (part a s) { place = place }
part-at a place s = ap (λ p. record (part a s) { place = p }) (at-own a s.places place)

pub put-over : (a : ℕ) (place : AddressState) (s : State) (after : AddressOutcome) → put a after (with_place_at a place s) ≡ put a after s
put-over a place s after = ap (λ (p : ℕ → AddressState). record (put a after s) { places = p }) (places-twice a s.places after.place place)

-- ---- a frame of a session, or a message

module _ (s : State) (frame : Frame) (meaning : FrameMeaning) (c : Came) (is : came s.now s.claims.own (source_of frame) (s.places (source_of frame)) meaning frame ≡ c)
    (after-is : (p : AddressView) (v : Verdict) → after_meaning s.now (source_of frame) p meaning frame v
    ≡ after_came (source_of frame) p v (came s.now p.terminal (source_of frame) p.place meaning frame))
    (same : c.place.content ≡ (s.places (source_of frame)).content) where
  abbrev a : ℕ
  a = source_of frame

  abbrev u : State
  u = with_place_at a c.place s

  after-came : (v : Verdict) → after_meaning s.now a (part a s) meaning frame v ≡ with_frames_first c.frames (after_message a (part a u) v (part a u).set c.message)
  after-came v =
      after-is (part a s) v ∙ ap (after_came a (part a s) v) is
      ∙ ap (λ (p : AddressView). with_frames_first c.frames (after_message a p v p.set c.message)) (sym (part-at a c.place s))

  pub takes-came : (t : State) (reply : Option Frame) (before after : List Output) → Handles u a c.message reply t
      → after ≡ (before ++ frames_of c.frames) ++ frames_of (option_to_list reply) → AppliesMeaning s meaning frame t before after
  takes-came t reply before after takes sent =
      let v = takes.verdict in record {
        verdict = v;
        judged = λ ends.
            subst (λ x. IsVerdict x v) (ap (λ (p : AddressState). p.content) (at-own a s.places c.place) ∙ same)
            (takes.judged (ap (λ (d : Came). ends_transfer (set_at a s.sets) d.message) (sym is) ∙ ends));
        state =
            takes.state ∙ put-over a c.place s (after_message a (part a u) v (part a u).set c.message)
            ∙ ap (λ (o : AddressOutcome). put a o s) (sym (after-came v));
        sent =
            sent ∙ ap (λ l. (before ++ frames_of c.frames) ++ frames_of l) takes.reply_is
            ∙ append_assoc before (frames_of c.frames) (frames_of (after_message a (part a u) v (part a u).set c.message).frames)
            ∙ ap (λ l. before ++ l) (sym (frames-append c.frames (after_message a (part a u) v (part a u).set c.message).frames))
            ∙ ap (λ (o : AddressOutcome). before ++ frames_of o.frames) (sym (after-came v));
      }

-- ---- frames to an address as outputs

frames-to_one : (a : ℕ) (frames : List Frame) → outputs_of (map (ToOne a) frames) ≡ frames_of frames
frames-to_one a [] = refl
frames-to_one a (f ∷ frames) = ap (λ l. declared.Frame f ∷ l) (frames-to_one a frames)

pub outputs-append : (xs ys : List Sent) → outputs_of (xs ++ ys) ≡ outputs_of xs ++ outputs_of ys
outputs-append xs ys = map-append _ xs ys

pub accepted-frames : (a : ℕ) (o : AddressOutcome) → o.refused ≡ None → outputs_of (to_address a o) ≡ frames_of o.frames
accepted-frames a o none =
    outputs-append (map (ToOne a) o.frames) (sent_refusal o.refused)
    ∙ ap (λ r. outputs_of (map (ToOne a) o.frames) ++ outputs_of (sent_refusal r)) none
    ∙ append-nil (outputs_of (map (ToOne a) o.frames)) ∙ frames-to_one a o.frames

-- ---- a frame other than a claim, from the terminal's own address or another one

-- The message of a frame does not depend on the time of the last frame.
came-heard : (now own a : ℕ) (place : AddressState) (meaning : FrameMeaning) (frame : Frame)
    → (came now own a (heard_at now place) meaning frame).message ≡ (came now own a place meaning frame).message
came-heard now own a place (meanings.Claim name) frame = refl
came-heard now own a place meanings.ClaimRequest frame = refl
came-heard now own a place (meanings.Master count) frame = refl
came-heard now own a place (meanings.Member name) frame = refl
came-heard now own a place meanings.Message frame = refl
came-heard now own a place meanings.Tp frame = refl
came-heard now own a place meanings.Etp frame = refl
came-heard now own a place meanings.Nothing frame = refl

module _ (s : State) (frame : Frame) (meaning : FrameMeaning) (no : IsNoClaim meaning) where
  abbrev from : ℕ
  from = source_of frame

  -- A frame other than a claim has no act but the one at its source.
  acts-are : (v : Verdict) → (acted s from meaning frame v ≡ after_acts s (heard_at_source s.claims.own from meaning frame v))
      × (sent_by_frame s from meaning frame v ≡ defence s from meaning ++ sent_by_acts s (heard_at_source s.claims.own from meaning frame v))
  acts-are v = cases meaning no
    where
      cases : (n : FrameMeaning) → IsNoClaim n → (acted s from n frame v ≡ after_acts s (heard_at_source s.claims.own from n frame v))
          × (sent_by_frame s from n frame v ≡ defence s from n ++ sent_by_acts s (heard_at_source s.claims.own from n frame v))
      cases (meanings.Claim name) none = absurd (none name refl)
      cases meanings.ClaimRequest none = (refl, refl)
      cases (meanings.Master count) none = (refl, refl)
      cases (meanings.Member name) none = (refl, refl)
      cases meanings.Message none = (refl, refl)
      cases meanings.Tp none = (refl, refl)
      cases meanings.Etp none = (refl, refl)
      cases meanings.Nothing none = (refl, refl)

  -- A frame from the terminal's own address has no act.
  pub takes-echo : (v : Verdict) (before after : List Output) → from ≡ s.claims.own → IsJudged s.now from (part from s) meaning frame v
      → after ≡ before ++ outputs_of (defence s from meaning) → TakesFrame s meaning frame s before after
  takes-echo v before after own judged sent =
      let none : heard_at_source s.claims.own from meaning frame v ≡ [] = ap (λ b. cond b [] ((from, Hears meaning frame v) ∷ [])) (eq-eqb from s.claims.own own) in record {
        verdict = v;
        judged = judged;
        state = sym ((acts-are v).0 ∙ ap (after_acts s) none);
        sent =
            sent ∙ ap (λ l. before ++ outputs_of l)
            (sym ((acts-are v).1 ∙ ap (λ l. defence s from meaning ++ sent_by_acts s l) none ∙ append-nil (defence s from meaning)));
      }

  -- A frame from another address has its act there.
  abbrev heard : State
  heard = with_place_at from (heard_at s.now (s.places from)) s

  pub takes-heard : (t : State) (before middle after : List Output) → from ≢ s.claims.own → middle ≡ before ++ outputs_of (defence s from meaning)
      → AppliesMeaning heard meaning frame t middle after → ((p : AddressView) (v : Verdict) → (after_meaning s.now from p meaning frame v).refused ≡ None) → TakesFrame s meaning frame t before after
  takes-heard t before middle after ne first takes accepted =
      let v = takes.verdict in
      let p : AddressView = record (part from s) { place = heard_at s.now (s.places from) } in
      let one : heard_at_source s.claims.own from meaning frame v ≡ (from, Hears meaning frame v) ∷ [] =
      ap (λ b. cond b [] ((from, Hears meaning frame v) ∷ [])) (ne_eqb from s.claims.own ne) in
      let alike : part from heard ≡ p = part-at from (heard_at s.now (s.places from)) s in
      let o = after_meaning s.now from p meaning frame v in record {
        verdict = v;
        judged = λ ends.
            subst (λ (q : AddressView). IsVerdict q.place.content v) alike
            (takes.judged
            ((λ i. ends_transfer (set_at from s.sets) (came s.now s.claims.own from (alike i).place meaning frame).message)
            ∙ ap (λ m. ends_transfer (set_at from s.sets) m) (came-heard s.now s.claims.own from (s.places from) meaning frame) ∙ ends));
        state =
            takes.state ∙ ap (λ (q : AddressView). put from (after_meaning s.now from q meaning frame v) heard) alike
            ∙ put-over from (heard_at s.now (s.places from)) s o
            ∙ sym ((acts-are v).0 ∙ ap (after_acts s) one ∙ act-is s from (Hears meaning frame v));
        sent =
            takes.sent ∙ ap (λ (q : AddressView). middle ++ frames_of (after_meaning s.now from q meaning frame v).frames) alike
            ∙ ap (λ l. l ++ frames_of o.frames) first
            ∙ append_assoc before (outputs_of (defence s from meaning)) (frames_of o.frames)
            ∙ ap (λ l. before ++ (outputs_of (defence s from meaning) ++ l))
            (sym (ap outputs_of (append-nil (sent_by_act s from (Hears meaning frame v)) ∙ sent_by_one-is s from (Hears meaning frame v)) ∙ accepted-frames from o (accepted p v)))
            ∙ ap (λ l. before ++ l) (sym (outputs-append (defence s from meaning) (sent_by_act s from (Hears meaning frame v) ++ [])))
            ∙ ap (λ l. before ++ outputs_of l)
            (sym ((acts-are v).1 ∙ ap (λ l. defence s from meaning ++ sent_by_acts s l) one));
      }
