-- The happenings at an address decide its view, for any right judgements of pools.
use Rattle.std.proofs.Common.{◌≡◌, ◌≢◌, ℕ, Bool, true, false, cond, eqb, List, [], ◌∷◌, ◌++◌, Option, Some, None, is_some, ◌&&◌, refl, sym, ap, subst, ◌∙◌, nat_eq}
use Rattle.std.proofs.lemmas.Bool.{eqb-true, false≢true}
use Rattle.std.specs.List.{AllZip}
use Rattle.std.specs.Option.{option_eq}
use Rattle.vt_can.specs.Assigned.{TP_TIMEOUT, ETP_TIMEOUT, SENDER_TIMEOUT}
use Rattle.vt_can.specs.declared.frames.frame.Frame.{Frame}
use Rattle.vt_can.specs.frames.Frame.{source_of}
use Rattle.vt_can.specs.lines.Actions.{ActionValue}
use Rattle.vt_can.specs.transport.Sessions.{is_overdue}
use Rattle.vt_names.specs.Claims.{Claimed, holder_of}
use Rattle.vt_names.specs.Registry.{Set, set_at}
use Rattle.vt_node.specs.Bus.{meaning_of, frame_meaning}
use Rattle.vt_server.specs.shown.ShownSet.{shown_now, ACTIVATE, DEACTIVATE}
use Rattle.vt_server.specs.Judgements.{IsJudged, IsJudgedRight, AreJudgedRight, ends_transfer}
use Rattle.vt_laws.specs.Happenings.{Happening, TpExpired, EtpExpired, SendingExpired, FellSilent, Lost, HolderIs, FrameHeard, Operated, EventRaised, response, part_after_all, frames_of_all, own_part, is_at, if_so, holder_change, claims_after, events_at, lapses, loses, heard_happenings, after_frame, after_action_at, frame_happenings, happenings, happenings_all, AreAlike, OwnHappeningsDecide}
use Rattle.vt_laws.specs.Responses.{Response, response_of}
use Rattle.vt_server.specs.state.StateInvariants.{IsOrderly, IsOther}
use Rattle.vt_server.specs.frame.TimeoutActs.{at_time, lapsed}
use Rattle.vt_node.specs.Watches.{is_silent}
use Rattle.vt_server.specs.operator.ActionEffects.{object_acted_on}
use Rattle.vt_server.specs.state.AddressViews.{AddressView, AddressOutcome, untimed_part}
use Rattle.vt_server.specs.frame.SessionEffects.{Came}
use Rattle.vt_server.specs.Steps.{JudgedInput, FrameAt, ActionAt, step, receive_claim}
use Rattle.vt_server.specs.Terminals.{State, part, pool_at}
use Rattle.vt_server.specs.message.Verdicts.{Verdict}
use Rattle.vt_node.specs.declared.bus.FrameMeaning.{FrameMeaning}
use Rattle.vt_node.specs.declared.bus.FrameMeaning.TheVariants.{Claim, ClaimRequest, Master, Member, Message, Tp, Etp, Nothing}
use Rattle.vt_server.proofs.lemmas.acts.HolderChanges.{option-true}
use Rattle.vt_laws.proofs.lemmas.views.HappeningsOfFrame.{meaning-there}
use Rattle.vt_server.proofs.lemmas.steps.StepInvariants.{claims-lapsed, other-step}
use Rattle.vt_laws.proofs.lemmas.judgements.OneStep.{IsSeenIn, operator-one}
use Rattle.vt_laws.proofs.lemmas.judgements.OneVerdict.{Judging, heard-one}
use Rattle.vt_laws.proofs.lemmas.views.ActChangesOneView.{bare}
use Rattle.vt_laws.proofs.lemmas.views.ViewsAfterSteps.{own-bare, step-ends, orderly-step, part-all, frames-all}
use Rattle.vt_laws.proofs.lemmas.views.ResponsesInSequence.{response-has, lapses-take}
use Rattle.vt_laws.proofs.lemmas.views.OutcomesWithoutTimes.{Laws, came-timeless}
use Rattle.vt_names.proofs.IndexAfterClaim.{option_same}

-- ---- right judgements, by the view of the address alone

abbrev IsOwnRight : ℕ → AddressView → Happening → Type 0
IsOwnRight a p (FrameHeard f verdict) = IsJudged 0 a p (frame_meaning p.terminal f) f verdict
IsOwnRight a p (Operated action shown) = IsSeenIn p.place.content.pool (object_acted_on action) shown
IsOwnRight a p _ = Unit {0}

abbrev AreOwnRight : ℕ → AddressView → List Happening → Type 0
AreOwnRight a p [] = Unit {0}
AreOwnRight a p (h ∷ hs) = IsOwnRight a p h × AreOwnRight a (response a p h).part hs

right-append : (a : ℕ) (p : AddressView) (xs ys : List Happening) → AreOwnRight a p xs → AreOwnRight a (part_after_all a p xs) ys → AreOwnRight a p (xs ++ ys)
right-append a p [] ys found rest = rest
right-append a p (x ∷ xs) ys found rest = (found.0, right-append a (response a p x).part xs ys found.1 rest)

-- ---- happenings without judgements

abbrev IsPlain : Happening → Type 0
IsPlain h = (a : ℕ) (p : AddressView) → IsOwnRight a p h

abbrev ArePlain : List Happening → Type 0
ArePlain [] = Unit {0}
ArePlain (h ∷ hs) = IsPlain h × ArePlain hs

plain-right : (a : ℕ) (p : AddressView) (hs : List Happening) → ArePlain hs → AreOwnRight a p hs
plain-right a p [] plain = tt
plain-right a p (h ∷ hs) plain = (plain.0 a p, plain-right a (response a p h).part hs plain.1)

plain-append : (xs ys : List Happening) → ArePlain xs → ArePlain ys → ArePlain (xs ++ ys)
plain-append [] ys first rest = rest
plain-append (x ∷ xs) ys first rest = (first.0, plain-append xs ys first.1 rest)

plain-so : (b : Bool) (h : Happening) → IsPlain h → ArePlain (if_so b h)
plain-so true h plain = (plain, tt)
plain-so false h plain = tt

lapses-plain : (a : ℕ) (s : State) → ArePlain (lapses a s)
lapses-plain a s =
    let tp = is_overdue TP_TIMEOUT s.now (s.places a).tp in
    let etp = is_overdue ETP_TIMEOUT s.now (s.places a).etp in
    let sending = is_overdue SENDER_TIMEOUT s.now (s.places a).sending in
    let silent = is_some (set_at a s.sets) && is_silent s.now (s.places a).heard in
    plain-append (if_so tp TpExpired) (if_so etp EtpExpired ++ (if_so sending SendingExpired ++ if_so silent FellSilent)) (plain-so tp TpExpired (λ b p. tt))
    (plain-append (if_so etp EtpExpired) (if_so sending SendingExpired ++ if_so silent FellSilent) (plain-so etp EtpExpired (λ b p. tt))
    (plain-append (if_so sending SendingExpired) (if_so silent FellSilent) (plain-so sending SendingExpired (λ b p. tt)) (plain-so silent FellSilent (λ b p. tt))))

events-plain : (a : ℕ) (was now : Option ℕ) → ArePlain (events_at a was now)
events-plain a was now = cases (option_eq nat_eq was now)
  where
    cases : (b : Bool) → ArePlain (cond b [] (if_so (is_at a was) (EventRaised DEACTIVATE) ++ if_so (is_at a now) (EventRaised ACTIVATE)))
    cases true = tt
    cases false =
        plain-append (if_so (is_at a was) (EventRaised DEACTIVATE)) (if_so (is_at a now) (EventRaised ACTIVATE))
        (plain-so (is_at a was) (EventRaised DEACTIVATE) (λ b p. tt)) (plain-so (is_at a now) (EventRaised ACTIVATE) (λ b p. tt))

holder-plain : (a : ℕ) (old new : Claimed) → ArePlain (holder_change a old new)
holder-plain a old new = cases (option_eq nat_eq (holder_of old.addresses a) (holder_of new.addresses a))
  where
    cases : (b : Bool) → ArePlain (cond b [] (HolderIs (holder_of new.addresses a) ∷ []))
    cases true = tt
    cases false = (λ b p. tt, tt)

same-holder : (a : ℕ) (c : Claimed) → holder_change a c c ≡ []
same-holder a c = ap (λ b. cond b [] (HolderIs (holder_of c.addresses a) ∷ [])) (option_same (holder_of c.addresses a))

-- ---- a verdict, without times

never-ends : {P : Type 0} (o : Option Set) → ends_transfer o None ≡ true → P
never-ends None e = absurd (false≢true e)
never-ends (Some set) e = absurd (false≢true e)

module _ (laws : Laws) where
  judged-timeless : (now a : ℕ) (p : AddressView) (n : FrameMeaning) (f : Frame) (verdict : Verdict) → IsJudged now a p n f verdict → IsJudged 0 a (untimed_part p) n f verdict
  judged-timeless now a p n f verdict judged =
      λ e. judged (ap (λ (c : Came). ends_transfer p.set c.message) (came-timeless laws now p.terminal a p.place n f) ∙ e)

  -- ---- a frame after the timeouts and closings of its time, and after a change of the holder

  module _ (a : ℕ) (u : State) (f : Frame) (verdict : Verdict) (apart : a ≢ u.claims.own) (has : u.lost ≡ false) where
    abbrev own : ℕ
    own = u.claims.own

    abbrev IsRightAfter : List Happening → Type 0
    IsRightAfter hs = IsOwnRight a (part_after_all a (bare a u) hs) (FrameHeard f verdict)

    terminal-after : (c : Claimed) → (part_after_all a (bare a u) (holder_change a u.claims c)).terminal ≡ own
    terminal-after c = cases (option_eq nat_eq (holder_of u.claims.addresses a) (holder_of c.addresses a))
      where
        cases : (b : Bool) → (part_after_all a (bare a u) (cond b [] (HolderIs (holder_of c.addresses a) ∷ []))).terminal ≡ own
        cases true = refl
        cases false = ap (λ (o : Response). o.part.terminal) (response-has a (bare a u) (HolderIs (holder_of c.addresses a)) has)

    claim-right : (name : ℕ) → frame_meaning own f ≡ Claim name → IsRightAfter (holder_change a u.claims (receive_claim u (source_of f) (Claim name)))
    claim-right name is =
        let q = part_after_all a (bare a u) (holder_change a u.claims (receive_claim u (source_of f) (Claim name))) in
        let said = ap (λ (t : ℕ). frame_meaning t f) (terminal-after (receive_claim u (source_of f) (Claim name))) ∙ is in
        subst (λ (n : FrameMeaning). IsJudged 0 a q n f verdict) (sym said) (λ e. never-ends q.set e)

    same-right : (n : FrameMeaning) → frame_meaning own f ≡ n → IsJudged u.now a (part a u) n f verdict → IsRightAfter (holder_change a u.claims u.claims)
    same-right n is judged =
        subst IsRightAfter (sym (same-holder a u.claims))
        (subst (λ (m : FrameMeaning). IsJudged 0 a (bare a u) m f verdict) (sym is) (judged-timeless u.now a (part a u) n f verdict judged))

    meaning-right : (n : FrameMeaning) → frame_meaning own f ≡ n → IsJudged u.now a (part a u) n f verdict → IsRightAfter (holder_change a u.claims (receive_claim u (source_of f) n))
    meaning-right (Claim name) is judged = claim-right name is
    meaning-right ClaimRequest is judged = same-right ClaimRequest is judged
    meaning-right (Master count) is judged = same-right (Master count) is judged
    meaning-right (Member name) is judged = same-right (Member name) is judged
    meaning-right Message is judged = same-right Message is judged
    meaning-right Tp is judged = same-right Tp is judged
    meaning-right Etp is judged = same-right Etp is judged
    meaning-right Nothing is judged = same-right Nothing is judged

    abbrev m : FrameMeaning
    m = meaning_of own u.claims.name f

    heard-right : IsJudged u.now (source_of f) (part (source_of f) u) m f verdict → AreOwnRight a (bare a u) (heard_happenings a u f verdict)
    heard-right judged =
        right-append a (bare a u) (holder_change a u.claims (claims_after u f)) (if_so (eqb (source_of f) a) (FrameHeard f verdict))
        (plain-right a (bare a u) (holder_change a u.claims (claims_after u f)) (holder-plain a u.claims (claims_after u f)))
        (cases (eqb (source_of f) a) (λ here. right (eqb-true (source_of f) a here)))
      where
        q : AddressView
        q = part_after_all a (bare a u) (holder_change a u.claims (claims_after u f))

        right : source_of f ≡ a → IsOwnRight a q (FrameHeard f verdict)
        right here =
            meaning-right m (sym (meaning-there a u f apart here)) (subst (λ b. IsJudged u.now b (part b u) m f verdict) here judged)

        cases : (b : Bool) → (b ≡ true → IsOwnRight a q (FrameHeard f verdict)) → AreOwnRight a q (if_so b (FrameHeard f verdict))
        cases true is = (is refl, tt)
        cases false is = tt

    hearing-right : IsJudged u.now (source_of f) (part (source_of f) u) m f verdict → AreOwnRight a (bare a u) (frame_happenings a u f verdict)
    hearing-right judged = cases (loses u f)
      where
        cases : (b : Bool) → AreOwnRight a (bare a u) (cond b (Lost ∷ []) (heard_happenings a u f verdict ++ events_at a u.shown (shown_now (after_frame u f verdict))))
        cases true = (tt, tt)
        cases false =
            let hs = heard_happenings a u f verdict in
            let events = events_at a u.shown (shown_now (after_frame u f verdict)) in
            right-append a (bare a u) hs events (heard-right judged)
            (plain-right a (part_after_all a (bare a u) hs) events (events-plain a u.shown (shown_now (after_frame u f verdict))))

  -- ---- every step

  frame-right : (a : ℕ) (s : State) (time : ℕ) (f : Frame) (verdict : Verdict) → IsOrderly s → IsOther a s → s.lost ≡ false → IsJudgedRight s (FrameAt time f verdict)
      → AreOwnRight a (bare a s) (lapses a (at_time s time) ++ frame_happenings a (lapsed (at_time s time)) f verdict)
  frame-right a s time f verdict orderly other has found =
      let t = at_time s time in
      let u = lapsed t in
      let lapse = lapses-take laws a t other.small orderly.apart has in
      let same = sym (claims-lapsed t) in
      let judged = subst (λ (c : Claimed). IsJudged u.now (source_of f) (part (source_of f) u) (meaning_of c.own c.name f) f verdict) same (found has) in
      let apart = subst (λ (c : Claimed). a ≢ c.own) same other.other in
      right-append a (bare a s) (lapses a t) (frame_happenings a u f verdict) (plain-right a (bare a s) (lapses a t) (lapses-plain a t))
      (subst (λ p. AreOwnRight a p (frame_happenings a u f verdict)) lapse.part (hearing-right a u f verdict apart lapse.has judged))

  action-right : (a : ℕ) (s : State) (action : ActionValue) (shown : Bool) → IsSeenIn (pool_at s s.shown) (object_acted_on action) shown
      → AreOwnRight a (bare a s) (if_so (is_at a s.shown) (Operated action shown) ++ events_at a s.shown (shown_now (after_action_at s action shown)))
  action-right a s action shown seen =
      let hs = if_so (is_at a s.shown) (Operated action shown) in
      let events = events_at a s.shown (shown_now (after_action_at s action shown)) in
      right-append a (bare a s) hs events
      (cases (is_at a s.shown) (λ here. subst (λ o. IsSeenIn (pool_at s o) (object_acted_on action) shown) (option-true s.shown (Some a) here) seen))
      (plain-right a (part_after_all a (bare a s) hs) events (events-plain a s.shown (shown_now (after_action_at s action shown))))
    where
      cases : (b : Bool) → (b ≡ true → IsOwnRight a (bare a s) (Operated action shown)) → AreOwnRight a (bare a s) (if_so b (Operated action shown))
      cases true is = (is refl, tt)
      cases false is = tt

  step-right : (a : ℕ) (s : State) (e : JudgedInput) → IsOrderly s → IsOther a s → IsJudgedRight s e → AreOwnRight a (own_part a s) (happenings a s e)
  step-right a s (FrameAt time f verdict) orderly other found = cases s.lost refl
    where
      hs : List Happening
      hs = lapses a (at_time s time) ++ frame_happenings a (lapsed (at_time s time)) f verdict

      cases : (b : Bool) → s.lost ≡ b → AreOwnRight a (own_part a s) (cond b [] hs)
      cases true lost = tt
      cases false has = subst (λ p. AreOwnRight a p hs) (sym (own-bare a s has)) (frame-right a s time f verdict orderly other has found)
  step-right a s (ActionAt action shown) orderly other found = cases s.lost refl
    where
      hs : List Happening
      hs = if_so (is_at a s.shown) (Operated action shown) ++ events_at a s.shown (shown_now (after_action_at s action shown))

      cases : (b : Bool) → s.lost ≡ b → AreOwnRight a (own_part a s) (cond b [] hs)
      cases true lost = tt
      cases false has = subst (λ p. AreOwnRight a p hs) (sym (own-bare a s has)) (action-right a s action shown (found has))

  all-right : (a : ℕ) (s : State) (xs : List JudgedInput) → IsOrderly s → IsOther a s → AreJudgedRight s xs → AreOwnRight a (own_part a s) (happenings_all a s xs)
  all-right a s [] orderly other found = tt
  all-right a s (e ∷ xs) orderly other found =
      let later = happenings_all a (step s e).after xs in
      right-append a (own_part a s) (happenings a s e) later (step-right a s e orderly other found.0)
      (subst (λ p. AreOwnRight a p later) (step-ends laws a s e orderly other).part
      (all-right a (step s e).after xs (orderly-step laws s e orderly) (other-step a s e other) found.1))

-- ---- alike happenings with right judgements

module _ (judging : Judging) (a : ℕ) where
  response-one : (p : AddressView) (h k : Happening) → AreAlike h k → IsOwnRight a p h → IsOwnRight a p k → response a p h ≡ response a p k
  response-one p (FrameHeard f v) (FrameHeard g w) same is too =
      let n = frame_meaning p.terminal f in
      let right = subst (λ (x : Frame). IsJudged 0 a p (frame_meaning p.terminal x) x w) (sym same) too in
      ap (λ (o : AddressOutcome). cond p.lost (record { part = p; frames = [] }) (response_of p o)) (heard-one judging 0 a p n f v w is right)
      ∙ ap (λ (x : Frame). response a p (FrameHeard x w)) same
  response-one p (Operated x b) (Operated y d) same is too =
      let right = subst (λ (z : ActionValue). IsSeenIn p.place.content.pool (object_acted_on z) d) (sym same) too in
      ap (λ (o : AddressOutcome). cond p.lost (record { part = p; frames = [] }) (response_of p o)) (operator-one 0 a p x b d p.place.content.pool is right)
      ∙ ap (λ (z : ActionValue). response a p (Operated z d)) same
  response-one p h k same is too = ap (response a p) same

  -- Two lists of happenings have the same response.
  record AreOne (p : AddressView) (hs ks : List Happening) : Type 0 where
    pub part : part_after_all a p hs ≡ part_after_all a p ks
    pub frames : frames_of_all a p hs ≡ frames_of_all a p ks

  alike-one : (p : AddressView) (hs ks : List Happening) → AreOwnRight a p hs → AreOwnRight a p ks → AllZip AreAlike hs ks → AreOne p hs ks
  alike-one p [] [] found too alike = record { part = refl; frames = refl }
  alike-one p [] (k ∷ ks) found too alike = absurd alike
  alike-one p (h ∷ hs) [] found too alike = absurd alike
  alike-one p (h ∷ hs) (k ∷ ks) found too alike =
      let first = response-one p h k alike.0 found.0 too.0 in
      let moved = subst (λ (r : Response). AreOwnRight a r.part ks) (sym first) too.1 in
      let rest = alike-one (response a p h).part hs ks found.1 moved alike.1 in
      record {
        part = rest.part ∙ ap (λ (r : Response). part_after_all a r.part ks) first;
        frames = ap (λ l. (response a p h).frames ++ l) rest.frames ∙ ap (λ (r : Response). r.frames ++ frames_of_all a r.part ks) first;
      }

-- ---- runs

pub decide : Laws → Judging → OwnHappeningsDecide
decide laws judging = record {
  same = λ a s t xs ys here there other then-other same happened. record {
    part = part-all laws a s xs here other ∙ (λ i. part_after_all a (same i) (happened i)) ∙ sym (part-all laws a t ys there then-other);
    frames = frames-all laws a s xs here other ∙ (λ i. frames_of_all a (same i) (happened i)) ∙ sym (frames-all laws a t ys there then-other);
  };
  alike = λ a s t xs ys here there other then-other found too same alike.
      let hs = happenings_all a s xs in
      let ks = happenings_all a t ys in
      let moved = subst (λ (p : AddressView). AreOwnRight a p ks) (sym same) (all-right laws a t ys there then-other too) in
      let one = alike-one judging a (own_part a s) hs ks (all-right laws a s xs here other found) moved alike in
      record {
        part = part-all laws a s xs here other ∙ one.part ∙ ap (λ p. part_after_all a p ks) same ∙ sym (part-all laws a t ys there then-other);
        frames = frames-all laws a s xs here other ∙ one.frames ∙ ap (λ p. frames_of_all a p ks) same ∙ sym (frames-all laws a t ys there then-other);
      };
}
