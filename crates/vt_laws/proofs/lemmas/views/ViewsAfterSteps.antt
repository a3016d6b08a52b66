-- A step, and a run, changes the view of each address by the happenings there.
use Rattle.std.proofs.Common.{◌≡◌, ◌≢◌, ℕ, Bool, true, false, cond, List, [], ◌∷◌, ◌++◌, Option, Some, None, is_some, refl, sym, ap, subst, ◌∙◌}
use Rattle.vt_can.specs.declared.frames.frame.Frame.{Frame}
use Rattle.vt_can.specs.frames.Frame.{source_of}
use Rattle.vt_can.specs.lines.Actions.{ActionValue, Press, Release, Select, Number, Text}
use Rattle.vt_can.specs.lines.Actions as actions
use Rattle.vt_names.specs.Claims.{Claimed, IsRisingByName}
use Rattle.vt_stores.specs.Stores.{ObjectMap}
use Rattle.vt_node.specs.Bus.{meaning_of}
use Rattle.vt_server.specs.shown.ShownSet.{shown_now}
use Rattle.vt_laws.specs.Happenings.{Happening, Lost, Operated, Preloaded, with_holder, response, part_after_all, frames_of_all, own_part, if_so, is_at, loses, events_at, lapses, heard_happenings, after_frame, after_action_at, frame_happenings, happenings, happenings_all, EachTakesItsOwn}
use Rattle.vt_laws.specs.Responses.{Response, frames_to}
use Rattle.vt_server.specs.state.StateInvariants.{IsOrderly, IsOther}
use Rattle.vt_server.specs.frame.TimeoutActs.{at_time, lapsed, sent_by_lapses}
use Rattle.vt_server.specs.state.AddressViews.{AddressView, Act, Operates, Preloads, untimed_part}
use Rattle.vt_server.specs.Steps.{JudgedInput, FrameAt, ActionAt, step, after_all, sent_by_all, with_shown_updated, sent_by_shown_update, losing, acting, hearing, no_step, step_frame, has_no_set, selecting, at_shown, no_set, step_action, preloading}
use Rattle.vt_server.specs.Terminals.{State, Sent, holder, pool_of, part, after_acts, sent_by_acts}
use Rattle.vt_server.specs.message.Verdicts.{Verdict}
use Rattle.vt_server.proofs.lemmas.acts.HolderChanges.{shown-acts}
use Rattle.vt_laws.proofs.lemmas.views.HappeningsOfFrame.{acting-takes}
use Rattle.vt_server.proofs.lemmas.steps.StepInvariants.{step-keeps, orderly-kept, other-step, claims-lapsed}
use Rattle.vt_laws.proofs.lemmas.views.ActChangesOneView.{bare, bare-act, part-act_other, frames-append}
use Rattle.vt_server.proofs.lemmas.acts.ActLists.{of}
use Rattle.vt_server.proofs.lemmas.acts.ComposedActs.{beside-act}
use Rattle.vt_laws.proofs.lemmas.views.ResponsesInSequence.{Takes, then-takes, takes-beside, acts-take, lapses-take, shown_update-takes, response-has, responses-append, frames-responses}
use Rattle.vt_laws.proofs.lemmas.views.TimeoutsAtAddress.{so}
use Rattle.vt_laws.proofs.lemmas.views.OutcomesWithoutTimes.{Laws}

-- The view while the terminal has its own address.
pub own-bare : (a : ℕ) (s : State) → s.lost ≡ false → own_part a s ≡ bare a s
own-bare a s has = ap (λ b. untimed_part (with_holder (part a s) (cond b None (holder s a)))) has

-- The view of an address after a step and the frames to it are its response to these happenings, also if the terminal loses its
-- address.
pub record Ends (a : ℕ) (p : AddressView) (sent : List Sent) (t : State) (hs : List Happening) : Type 0 where
  pub part : own_part a t ≡ part_after_all a p hs
  pub frames : frames_to a sent ≡ frames_of_all a p hs

takes-ends : (a : ℕ) (p : AddressView) (sent : List Sent) (t : State) (hs : List Happening) → Takes a p sent t hs → Ends a p sent t hs
takes-ends a p sent t hs taken = record { part = own-bare a t taken.has ∙ taken.part; frames = taken.frames }

then-ends : (a : ℕ) (p : AddressView) (xs ys : List Sent) (t u : State) (hs ks : List Happening) → Takes a p xs t hs → Ends a (bare a t) ys u ks → Ends a p (xs ++ ys) u (hs ++ ks)
then-ends a p xs ys t u hs ks before next = record {
  part = next.part ∙ ap (λ q. part_after_all a q ks) before.part ∙ sym (responses-append a p hs ks);
  frames =
      frames-append a xs ys ∙ (λ i. before.frames i ++ next.frames i)
      ∙ ap (λ q. frames_of_all a p hs ++ frames_of_all a q ks) before.part ∙ sym (frames-responses a p hs ks);
}

-- ---- a frame

module _ (laws : Laws) (a : ℕ) (s : State) (orderly : IsOrderly s) (is : IsOther a s) (has : s.lost ≡ false) where
  losing-ends : (u : State) → u.lost ≡ false → Ends a (bare a u) (losing u).sent (losing u).after (Lost ∷ [])
  losing-ends u still = record {
    part = sym (ap (λ (o : Response). o.part) (response-has a (bare a u) Lost still));
    frames = sym (ap (λ (o : Response). o.frames ++ []) (response-has a (bare a u) Lost still));
  }

  -- A frame after the timeouts and closings of its time.
  hearing-ends : (old u : State) (f : Frame) (verdict : Verdict) → u.claims ≡ s.claims → u.lost ≡ false
      → let step = hearing old u (source_of f) (meaning_of s.claims.own s.claims.name f) f verdict in Ends a (bare a u) step.sent step.after (frame_happenings a u f verdict)
  hearing-ends old u f verdict same still =
      subst (λ (c : Claimed). let step = hearing old u (source_of f) (meaning_of c.own c.name f) f verdict in Ends a (bare a u) step.sent step.after (frame_happenings a u f verdict))
      same (cases (loses u f))
    where
      cases : (b : Bool) → let step = cond b (losing u) (acting old u (source_of f) (meaning_of u.claims.own u.claims.name f) f verdict) in
          Ends a (bare a u) step.sent step.after (cond b (Lost ∷ []) (heard_happenings a u f verdict ++ events_at a u.shown (shown_now (after_frame u f verdict))))
      cases true = losing-ends u still
      cases false =
          takes-ends a (bare a u) _ _ _
          (acting-takes laws a u f verdict (subst (λ (c : Claimed). IsRisingByName c.addresses) (sym same) orderly.rising)
          (subst (λ (c : Claimed). a ≢ c.own) (sym same) is.other) still old)

  frame-ends : (time : ℕ) (f : Frame) (verdict : Verdict)
      → Ends a (bare a s) (step_frame s time f verdict).sent (step_frame s time f verdict).after
      (lapses a (at_time s time) ++ frame_happenings a (lapsed (at_time s time)) f verdict)
  frame-ends time f verdict =
      let t = at_time s time in
      let lapse = lapses-take laws a t is.small orderly.apart has in
      let heard = hearing s (lapsed t) (source_of f) (meaning_of s.claims.own s.claims.name f) f verdict in
      then-ends a (bare a s) (sent_by_lapses t) heard.sent (lapsed t) heard.after (lapses a t) (frame_happenings a (lapsed t) f verdict) lapse
      (hearing-ends s (lapsed t) f verdict (claims-lapsed t) lapse.has)

-- ---- an action of the operator

-- The selection of another set changes nothing else.
pub selecting-same : {X : Type 0} (read : State → X) → ((s : State) (o : Option ℕ) → read (record s { selected = o }) ≡ read s) → (s : State) (action : ActionValue)
    → read (selecting s action) ≡ read s
selecting-same read same s (Press id) = refl
selecting-same read same s (Release id) = refl
selecting-same read same s (Select id) = refl
selecting-same read same s (Number id n) = refl
selecting-same read same s (Text id text) = refl
selecting-same {X} read same s (actions.Set a) = cases (is_some (pool_of s a))
  where
    cases : (b : Bool) → read (cond b (record s { selected = Some a }) s) ≡ read s
    cases true = same s (Some a)
    cases false = refl

of-shown : (a : ℕ) (o : Option ℕ) (h : Act) → of a (at_shown o h) ≡ so (is_at a o) h
of-shown a None h = refl
of-shown a (Some b) h = refl

frames-no_set : (a : ℕ) (b : Bool) → frames_to a (no_set b) ≡ []
frames-no_set a true = refl
frames-no_set a false = refl

action-takes : Laws → (a : ℕ) (s : State) (action : ActionValue) (shown : Bool) → s.lost ≡ false
    → Takes a (bare a s) (step_action s action shown).sent (step_action s action shown).after
    (if_so (is_at a s.shown) (Operated action shown) ++ events_at a s.shown (shown_now (after_action_at s action shown)))
action-takes laws a s action shown has =
    let u = selecting s action in
    let hs = at_shown s.shown (Operates action shown) in
    let t = after_acts u hs in
    let still : u.lost ≡ false = selecting-same (λ x. x.lost) (λ x o. refl) s action ∙ has in
    let same : bare a u ≡ bare a s = selecting-same (bare a) (λ x o. refl) s action in
    let operated = acts-take laws a u hs still (is_at a s.shown) (Operates action shown) (Operated action shown) (of-shown a s.shown (Operates action shown)) (λ _. refl) in
    let taken = takes-beside a (bare a u) (no_set (has_no_set s action)) (sent_by_acts u hs) t (if_so (is_at a s.shown) (Operated action shown)) (frames-no_set a (has_no_set s action)) operated in
    then-takes a (bare a s) (no_set (has_no_set s action) ++ sent_by_acts u hs) (sent_by_shown_update s t) t (with_shown_updated t)
    (if_so (is_at a s.shown) (Operated action shown)) (events_at a s.shown (shown_now t))
    (subst (λ p. Takes a p (no_set (has_no_set s action) ++ sent_by_acts u hs) t (if_so (is_at a s.shown) (Operated action shown))) same taken)
    (subst (λ o. Takes a (bare a t) (sent_by_shown_update s t) (with_shown_updated t) (events_at a o (shown_now t)))
    (shown-acts u hs ∙ selecting-same (λ x. x.shown) (λ x o. refl) s action) (shown_update-takes laws a s t operated.has))

-- ---- every step

pub step-ends : Laws → (a : ℕ) (s : State) (e : JudgedInput) → IsOrderly s → IsOther a s → Ends a (own_part a s) (step s e).sent (step s e).after (happenings a s e)
step-ends laws a s (FrameAt time f verdict) orderly other = cases s.lost refl
  where
    cases : (b : Bool) → s.lost ≡ b → let step = cond b (no_step s) (step_frame s time f verdict) in
        Ends a (own_part a s) step.sent step.after (cond b [] (lapses a (at_time s time) ++ frame_happenings a (lapsed (at_time s time)) f verdict))
    cases true lost = record { part = refl; frames = refl }
    cases false has =
        subst (λ p. Ends a p (step_frame s time f verdict).sent (step_frame s time f verdict).after (lapses a (at_time s time) ++ frame_happenings a (lapsed (at_time s time)) f verdict))
        (sym (own-bare a s has)) (frame-ends laws a s orderly other has time f verdict)
step-ends laws a s (ActionAt action shown) orderly other = cases s.lost refl
  where
    cases : (b : Bool) → s.lost ≡ b → let step = cond b (no_step s) (step_action s action shown) in
        Ends a (own_part a s) step.sent step.after (cond b [] (if_so (is_at a s.shown) (Operated action shown) ++ events_at a s.shown (shown_now (after_action_at s action shown))))
    cases true lost = record { part = refl; frames = refl }
    cases false has =
        subst (λ p. Ends a p (step_action s action shown).sent (step_action s action shown).after
        (if_so (is_at a s.shown) (Operated action shown) ++ events_at a s.shown (shown_now (after_action_at s action shown))))
        (sym (own-bare a s has)) (takes-ends a (bare a s) _ _ _ (action-takes laws a s action shown has))

preloaded-own : Laws → (a : ℕ) (s : State) (contents : ObjectMap) → s.lost ≡ false
    → own_part a (preloading s a contents) ≡ part_after_all a (own_part a s) (Preloaded contents ∷ [])
preloaded-own laws a s contents has =
    own-bare a (preloading s a contents) (beside-act (λ (t : State). t.lost) (λ b o t. refl) s a (Preloads contents) ∙ has)
    ∙ bare-act laws a s (Preloads contents)
    ∙ sym (ap (λ p. (response a p (Preloaded contents)).part) (own-bare a s has) ∙ ap (λ (o : Response). o.part) (response-has a (bare a s) (Preloaded contents) has))

pub each : Laws → EachTakesItsOwn
each laws = record {
  part_after = λ a s e orderly other. (step-ends laws a s e orderly other).part;
  frames_after = λ a s e orderly other. (step-ends laws a s e orderly other).frames;
  quiet = λ a s e orderly other none. (step-ends laws a s e orderly other).part ∙ ap (part_after_all a (own_part a s)) none;
  preloaded = preloaded-own laws;
  preloaded_elsewhere = λ a b s contents ne. ap (λ (p : AddressView). untimed_part (with_holder p (cond p.lost None p.holder))) (part-act_other b a s (Preloads contents) ne);
}

-- ---- runs

module _ (laws : Laws) where
  pub orderly-step : (s : State) (e : JudgedInput) → IsOrderly s → IsOrderly (step s e).after
  orderly-step s e orderly = step-keeps IsOrderly (orderly-kept laws.holders) s e orderly

  pub part-all : (a : ℕ) (s : State) (xs : List JudgedInput) → IsOrderly s → IsOther a s → own_part a (after_all s xs) ≡ part_after_all a (own_part a s) (happenings_all a s xs)
  part-all a s [] orderly other = refl
  part-all a s (e ∷ xs) orderly other =
      part-all a (step s e).after xs (orderly-step s e orderly) (other-step a s e other)
      ∙ ap (λ p. part_after_all a p (happenings_all a (step s e).after xs)) (step-ends laws a s e orderly other).part
      ∙ sym (responses-append a (own_part a s) (happenings a s e) (happenings_all a (step s e).after xs))

  pub frames-all : (a : ℕ) (s : State) (xs : List JudgedInput) → IsOrderly s → IsOther a s → frames_to a (sent_by_all s xs) ≡ frames_of_all a (own_part a s) (happenings_all a s xs)
  frames-all a s [] orderly other = refl
  frames-all a s (e ∷ xs) orderly other =
      let later = happenings_all a (step s e).after xs in
      let ended = step-ends laws a s e orderly other in
      frames-append a (step s e).sent (sent_by_all (step s e).after xs)
      ∙ (λ i. ended.frames i ++ frames-all a (step s e).after xs (orderly-step s e orderly) (other-step a s e other) i)
      ∙ ap (λ p. frames_of_all a (own_part a s) (happenings a s e) ++ frames_of_all a p later) ended.part
      ∙ sym (frames-responses a (own_part a s) (happenings a s e) later)
