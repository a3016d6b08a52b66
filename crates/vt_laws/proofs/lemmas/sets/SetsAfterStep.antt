-- The effect of each step on the list of sets.
use Rattle.std.proofs.Common.{◌≡◌, ◌≢◌, ℕ, Bool, true, false, cond, not, eqb, List, [], ◌∷◌, map, Option, Some, None, refl, sym, ap, subst, ◌∙◌, eq-eqb, ne_eqb}
use Rattle.std.specs.List.{filter}
use Rattle.vt_can.specs.declared.frames.frame.Frame.{Frame}
use Rattle.vt_can.specs.frames.Frame.{source_of}
use Rattle.vt_can.specs.lines.Actions.{ActionValue}
use Rattle.vt_names.specs.Claims.{Claimed, OtherHoldersStay, answer, holder_of}
use Rattle.vt_names.specs.Registry.{AreApart, Set, set_at, with_set, without, registering, joining, mastered, with_member, has_place, preloaded}
use Rattle.vt_node.specs.Bus.{meaning_of, frame_meaning, unless_echo}
use Rattle.vt_server.specs.shown.ShownSet.{choosing, shown_now, events_of_change}
use Rattle.vt_laws.specs.Happenings.{loses, SetIsHeld}
use Rattle.vt_server.specs.state.StateInvariants.{IsOrderly}
use Rattle.vt_server.specs.frame.TimeoutActs.{at_time, lapsed, set_is_silent, after_timeouts}
use Rattle.vt_node.specs.Watches.{is_silent}
use Rattle.vt_server.specs.state.AddressViews.{AddressView, Act, Hears, Preloads, FallsSilent, Operates, after_master, after_member, after_message, outcome}
use Rattle.vt_server.specs.state.AddressStates.{AddressState, heard_at}
use Rattle.vt_server.specs.frame.SessionEffects.{came}
use Rattle.vt_laws.specs.SetLists.{heard_sets, named_at, stays, IsSettled, SetsAfterSteps, sets_after, sets_by}
use Rattle.vt_server.specs.Steps.{JudgedInput, FrameAt, ActionAt, step, before, heard_at_source, acts, answer_to, is_lost_by, with_shown_updated, losing, acted, acting, hearing, no_step, step_frame, selecting, at_shown, step_action}
use Rattle.vt_server.specs.Terminals.{State, holder, part, after_act, after_acts, with_set_at}
use Rattle.vt_server.specs.message.Verdicts.{Verdict}
use Rattle.vt_node.specs.declared.bus.FrameMeaning.{FrameMeaning}
use Rattle.vt_node.specs.declared.bus.FrameMeaning.TheVariants.{Claim, ClaimRequest, Master, Member, Message, Tp, Etp, Nothing}
use Rattle.vt_server.proofs.lemmas.acts.AddressedActs.{AllAt, at-change, at-heard}
use Rattle.vt_server.proofs.lemmas.acts.HolderChanges.{claims-acts}
use Rattle.vt_laws.proofs.lemmas.sets.NamesOfHolders.{IsHeldAt, act-held, none-held, held}
use Rattle.vt_server.proofs.lemmas.steps.StepInvariants.{lapsed-keeps, orderly-kept, claims-lapsed, own-step, none-filter}
use Rattle.vt_laws.proofs.lemmas.views.TimeoutsAtAddress.{KeepsSets, sets-kept, sets-third, now-third, places-third}
use Rattle.vt_server.proofs.lemmas.acts.ActLists.{AllActs}
use Rattle.vt_laws.proofs.lemmas.sets.SetsAfterClaim.{claim-closes, none-closed}
use Rattle.vt_laws.proofs.lemmas.views.ActChangesOneView.{message-set, operator-set}
use Rattle.vt_node.proofs.Sets.{at-with_other, none-same}
use Rattle.vt_names.proofs.SetsByAddress.{set_at-first, set_at-later, set_at-address, without-first, without-later}
use Rattle.vt_server.proofs.lemmas.acts.ComposedActs.{sets-same, act-is}
use Rattle.vt_laws.proofs.lemmas.views.ViewsAfterSteps.{selecting-same}
use Rattle.vt_laws.proofs.lemmas.views.OutcomesWithoutTimes.{Laws}
use Rattle.vt_names.proofs.AddressesAfterClaim.{by_eq, none-some}

-- ---- silent sets

-- The list without the sets at the addresses of other sets.
abbrev gone : List Set → List Set → List Set
gone [] sets = sets
gone (x ∷ xs) sets = gone xs (without x.address sets)

falls-list : (xs : List Set) (s : State) → (after_acts s (map (λ set. (set.address, FallsSilent)) xs)).sets ≡ gone xs s.sets
falls-list [] s = refl
falls-list (x ∷ xs) s =
    falls-list xs (after_act s x.address FallsSilent) ∙ ap (λ (t : State). gone xs t.sets) (act-is s x.address FallsSilent)

gone-later : (xs : List Set) (t : Set) (sets : List Set) → set_at t.address xs ≡ None → gone xs (t ∷ sets) ≡ t ∷ gone xs sets
gone-later [] t sets none = refl
gone-later (x ∷ xs) t sets none =
    let rest = gone-later xs t (without x.address sets) in
    by_eq x.address t.address
    (λ is. none-some (sym none ∙ set_at-first t.address x xs is))
    (λ ne. ap (gone xs) (without-later x.address t sets (λ h. ne (sym h))) ∙ rest (sym (set_at-later t.address x xs ne) ∙ none))

gone-filter : (f : Set → Bool) (sets : List Set) → AreApart sets → gone (filter f sets) sets ≡ filter (λ set. not (f set)) sets
gone-filter f [] apart = refl
gone-filter f (t ∷ sets) apart = cases (f t) (gone-filter f sets apart.1)
  where
    cases : (b : Bool) → gone (filter f sets) sets ≡ filter (λ set. not (f set)) sets
        → gone (cond b (t ∷ filter f sets) (filter f sets)) (t ∷ sets) ≡ cond (not b) (t ∷ filter (λ set. not (f set)) sets) (filter (λ set. not (f set)) sets)
    cases true rest =
        ap (gone (filter f sets)) (without-first t.address t sets refl ∙ none-same t.address sets apart.0) ∙ rest
    cases false rest = gone-later (filter f sets) t sets (none-filter t.address f sets apart.0) ∙ ap (λ l. t ∷ l) rest

lapsed-list : (s : State) (time : ℕ) → AreApart s.sets → (lapsed (at_time s time)).sets ≡ heard_sets s time
unfolding lapsed
lapsed-list s time apart =
    let t = at_time s time in
    let u = after_timeouts t in
    falls-list (filter (set_is_silent u) u.sets) u
    ∙ gone-filter (set_is_silent u) u.sets (subst AreApart (sym (sets-third t)) apart)
    ∙ (λ i. filter
    (λ set. not (is_silent (now-third t i) (places-third t (λ (x : AddressState). x.heard) set.address (λ now b p. refl) (λ now b p. refl) (λ now b p. refl) i)))
    (sets-third t i))

-- ---- acts that keep the list

all-sets : (P : Act → Type 0) (hs : List (ℕ × Act)) → AllAt (λ a h. P h) hs → AllActs P hs
all-sets P [] all = tt
all-sets P (h ∷ hs) all = (all.0, all-sets P hs all.1)

shown_updated-list : (s : State) → (with_shown_updated s).sets ≡ s.sets
unfolding with_shown_updated
shown_updated-list s =
    let hs = events_of_change s.shown (shown_now s) in
    sets-kept (choosing s) hs (all-sets KeepsSets hs (at-change (λ a h. KeepsSets h) (λ a event now b p. refl) s.shown (shown_now s)))

pub shown_updated-claims : (s : State) → (with_shown_updated s).claims ≡ s.claims
unfolding with_shown_updated
shown_updated-claims s = claims-acts (choosing s) (events_of_change s.shown (shown_now s))

came-kept : (n : FrameMeaning) (f : Frame) (verdict : Verdict)
    → ((now a : ℕ) (p : AddressView) → let c = came now p.terminal a (heard_at now p.place) n f in (outcome now a p (Hears n f verdict)).set ≡ (after_message a (record p { place = c.place }) verdict p.set c.message).set)
    → KeepsSets (Hears n f verdict)
came-kept n f verdict is now a p =
    let c = came now p.terminal a (heard_at now p.place) n f in
    is now a p ∙ message-set a (record p { place = c.place }) verdict p.set c.message

-- ---- the meanings of frames from the terminal's own address

abbrev IsHeeded : FrameMeaning → Type 0
IsHeeded (Claim name) = Unit {0}
IsHeeded Nothing = Unit {0}
IsHeeded _ = ⊥

echo-heeded : (name : ℕ) (n : FrameMeaning) → IsHeeded (unless_echo name n)
echo-heeded name (Claim other) = cases (eqb other name)
  where
    cases : (b : Bool) → IsHeeded (cond b Nothing (Claim other))
    cases true = tt
    cases false = tt
echo-heeded name ClaimRequest = tt
echo-heeded name (Master count) = tt
echo-heeded name (Member other) = tt
echo-heeded name Message = tt
echo-heeded name Tp = tt
echo-heeded name Etp = tt
echo-heeded name Nothing = tt

own-heeded : (own name : ℕ) (f : Frame) → source_of f ≡ own → IsHeeded (meaning_of own name f)
own-heeded own name f is =
    subst (λ b. IsHeeded (cond b (unless_echo name (frame_meaning own f)) (frame_meaning own f))) (sym (eq-eqb (source_of f) own is)) (echo-heeded name (frame_meaning own f))

-- ---- a frame

master-list : (s : State) (a count : ℕ) (place : AddressState) (o : Option ℕ)
    → with_set_at a (after_master a (record (part a s) { place = place }) o count).set s.sets ≡ registering a o count s.sets
master-list s a count place None = sets-same a s.sets (set_at a s.sets) refl
master-list s a count place (Some h) = refl

member-list : (s : State) (a name : ℕ) (place : AddressState) (o : Option Set) → set_at a s.sets ≡ o
    → with_set_at a (after_member (record (part a s) { place = place }) o name).set s.sets ≡ joining o name s.sets
member-list s a name place None e = sets-same a s.sets (set_at a s.sets) refl
member-list s a name place (Some set) e = cases (has_place set)
  where
    cases : (b : Bool) → with_set (cond b (with_member set name) set) s.sets ≡ cond b (with_set (with_member set name) s.sets) s.sets
    cases true = refl
    cases false = sets-same a s.sets (Some set) e

module _ (law : OtherHoldersStay) (s : State) (orderly : IsOrderly s) (is : IsSettled s) where
  everywhere : (a : ℕ) → SetIsHeld (set_at a s.sets) (holder s a)
  everywhere a = by_eq a s.claims.own (λ h. none-held (set_at a s.sets) (holder s a) (ap (λ b. set_at b s.sets) h ∙ is.elsewhere)) (is.held a)

  -- A frame that acts at its source alone.
  one-list : (source : ℕ) (n : FrameMeaning) (f : Frame) (verdict : Verdict) (sets : List Set) → (source ≡ s.claims.own → IsHeeded n) → (IsHeeded n → ⊥)
      → (after_act s source (Hears n f verdict)).sets ≡ sets → (after_acts s (heard_at_source s.claims.own source n f verdict)).sets ≡ sets
  one-list source n f verdict sets heeded not-heeded these =
      by_eq source s.claims.own
      (λ h. absurd (not-heeded (heeded h)))
      (λ ne. ap (λ b. (after_acts s (cond b [] ((source, Hears n f verdict) ∷ []))).sets) (ne_eqb source s.claims.own ne) ∙ these)

  kept-list : (source : ℕ) (n : FrameMeaning) (f : Frame) (verdict : Verdict) → KeepsSets (Hears n f verdict) → (after_acts s (heard_at_source s.claims.own source n f verdict)).sets ≡ s.sets
  kept-list source n f verdict keeps =
      let hs = heard_at_source s.claims.own source n f verdict in
      sets-kept s hs (all-sets KeepsSets hs (at-heard (λ a h. KeepsSets h) s.claims.own source n f verdict keeps))

  acts-list : (source : ℕ) (n : FrameMeaning) (f : Frame) (verdict : Verdict) → (source ≡ s.claims.own → IsHeeded n)
      → (acted s source n f verdict).sets ≡ sets_after (before s source n) source n s.sets
  acts-list source (Claim name) f verdict heeded = claim-closes law s orderly.rising source name orderly.apart is.elsewhere everywhere f verdict
  acts-list source ClaimRequest f verdict heeded = kept-list source ClaimRequest f verdict (came-kept ClaimRequest f verdict (λ now a p. refl))
  acts-list source (Master count) f verdict heeded =
      one-list source (Master count) f verdict (registering source (holder s source) count s.sets) heeded (λ h. h)
      (ap (λ (x : State). x.sets) (act-is s source (Hears (Master count) f verdict)) ∙ master-list s source count (heard_at s.now (s.places source)) (holder s source))
  acts-list source (Member name) f verdict heeded =
      one-list source (Member name) f verdict (joining (set_at source s.sets) name s.sets) heeded (λ h. h)
      (ap (λ (x : State). x.sets) (act-is s source (Hears (Member name) f verdict)) ∙ member-list s source name (heard_at s.now (s.places source)) (set_at source s.sets) refl)
  acts-list source Message f verdict heeded = kept-list source Message f verdict (came-kept Message f verdict (λ now a p. refl))
  acts-list source Tp f verdict heeded = kept-list source Tp f verdict (came-kept Tp f verdict (λ now a p. refl))
  acts-list source Etp f verdict heeded = kept-list source Etp f verdict (came-kept Etp f verdict (λ now a p. refl))
  acts-list source Nothing f verdict heeded = kept-list source Nothing f verdict (came-kept Nothing f verdict (λ now a p. refl))

-- ---- the list depends on the holders of the state alone

answer-same : (s u : State) (source : ℕ) (n : FrameMeaning) → u.claims ≡ s.claims → answer_to u source n ≡ answer_to s source n
answer-same s u source (Claim name) same = ap (λ (c : Claimed). answer c source name) same
answer-same s u source ClaimRequest same = refl
answer-same s u source (Master count) same = refl
answer-same s u source (Member name) same = refl
answer-same s u source Message same = refl
answer-same s u source Tp same = refl
answer-same s u source Etp same = refl
answer-same s u source Nothing same = refl

after-same : (t u : State) (source : ℕ) (n : FrameMeaning) (sets : List Set) → u.claims ≡ t.claims → sets_after u source n sets ≡ sets_after t source n sets
after-same t u source (Claim name) sets same = ap (λ (c : Claimed). map (named_at (record t { claims = c }) source) (filter (stays (record t { claims = c })) sets)) same
after-same t u source ClaimRequest sets same = refl
after-same t u source (Master count) sets same = ap (λ (c : Claimed). registering source (holder_of c.addresses source) count sets) same
after-same t u source (Member name) sets same = refl
after-same t u source Message sets same = refl
after-same t u source Tp sets same = refl
after-same t u source Etp sets same = refl
after-same t u source Nothing sets same = refl

-- ---- every step

module _ (laws : Laws) (s : State) (orderly : IsOrderly s) (is : IsSettled s) where
  module _ (time : ℕ) where
    abbrev u : State
    u = lapsed (at_time s time)

    u-claims : u.claims ≡ s.claims
    u-claims = claims-lapsed (at_time s time)

    u-list : u.sets ≡ heard_sets s time
    u-list = lapsed-list s time orderly.apart

    u-orderly : IsOrderly u
    u-orderly = lapsed-keeps IsOrderly (orderly-kept laws.holders).act (at_time s time) (record { rising = orderly.rising; apart = orderly.apart })

    u-settled : IsSettled u
    u-settled = record {
      elsewhere =
          (λ i. set_at (u-claims i).own (u-list i)) ∙ none-filter s.claims.own (λ set. not (set_is_silent (at_time s time) set)) s.sets is.elsewhere;
      held = λ a apart. lapsed-keeps (IsHeldAt a) (act-held a) (at_time s time) (is.held a (λ h. apart (h ∙ sym (ap (λ (c : Claimed). c.own) u-claims))));
    }

    frame-list : (f : Frame) (verdict : Verdict) → let m = meaning_of s.claims.own s.claims.name f in let after = (step_frame s time f verdict).after in
        after.sets ≡ cond (loses s f) (heard_sets s time) (sets_after after (source_of f) m (heard_sets s time))
    frame-list f verdict =
        let m = meaning_of s.claims.own s.claims.name f in
        let source = source_of f in
        let acting-list : (with_shown_updated (acted u source m f verdict)).sets ≡ sets_after (with_shown_updated (acted u source m f verdict)) source m (heard_sets s time) =
        shown_updated-list (acted u source m f verdict)
        ∙ acts-list laws.holders u u-orderly u-settled source m f verdict
        (λ h. own-heeded s.claims.own s.claims.name f (h ∙ ap (λ (c : Claimed). c.own) u-claims))
        ∙ ap (sets_after (before u source m) source m) u-list
        ∙ sym (after-same (before u source m) (with_shown_updated (acted u source m f verdict)) source m (heard_sets s time)
        (shown_updated-claims (acted u source m f verdict) ∙ claims-acts (before u source m) (acts u source m f verdict))) in
        cases m acting-list (is_lost_by (answer_to u source m))
        ∙ ap (λ a. cond (is_lost_by a) (heard_sets s time) (sets_after (hearing s u source m f verdict).after source m (heard_sets s time))) (answer-same s u source m u-claims)
      where
        cases : (m : FrameMeaning) → (with_shown_updated (acted u (source_of f) m f verdict)).sets ≡ sets_after (with_shown_updated (acted u (source_of f) m f verdict)) (source_of f) m (heard_sets s time)
            → (b : Bool) → let after = (cond b (losing u) (acting s u (source_of f) m f verdict)).after in
            after.sets ≡ cond b (heard_sets s time) (sets_after after (source_of f) m (heard_sets s time))
        cases m listed true = u-list
        cases m listed false = listed

  action-list : (action : ActionValue) (shown : Bool) → (step_action s action shown).after.sets ≡ s.sets
  action-list action shown =
      let t = selecting s action in
      let hs = at_shown s.shown (Operates action shown) in
      shown_updated-list (after_acts t hs)
      ∙ sets-kept t hs (all-shown s.shown)
      ∙ selecting-same (λ x. x.sets) (λ x o. refl) s action
    where
      all-shown : (o : Option ℕ) → AllActs KeepsSets (at_shown o (Operates action shown))
      all-shown None = tt
      all-shown (Some a) = (λ now b p. operator-set now b p action shown p.place.content.pool, tt)

  step-list : (e : JudgedInput) → (step s e).after.sets ≡ sets_by s (step s e).after e
  step-list (FrameAt time f verdict) = cases s.lost
    where
      cases : (b : Bool) → let m = meaning_of s.claims.own s.claims.name f in let after = (cond b (no_step s) (step_frame s time f verdict)).after in
          after.sets ≡ cond b s.sets (cond (loses s f) (heard_sets s time) (sets_after after (source_of f) m (heard_sets s time)))
      cases true = refl
      cases false = frame-list time f verdict
  step-list (ActionAt action shown) = cases s.lost
    where
      cases : (b : Bool) → (cond b (no_step s) (step_action s action shown)).after.sets ≡ s.sets
      cases true = refl
      cases false = action-list action shown

-- ---- no set at the terminal's own address

none-join : (b : Bool) (q : ℕ) (x : Set) (sets : List Set) → x.address ≢ q → set_at q sets ≡ None → set_at q (cond b (with_set x sets) sets) ≡ None
none-join true q x sets ne none = at-with_other q x sets ne ∙ none
none-join false q x sets ne none = none

none-joining : (q source : ℕ) (o : Option Set) (name : ℕ) (sets : List Set) → set_at source sets ≡ o → source ≢ q → set_at q sets ≡ None
    → set_at q (joining o name sets) ≡ None
none-joining q source None name sets there ne none = none
none-joining q source (Some x) name sets there ne none =
    none-join (has_place x) q (with_member x name) sets (λ h. ne (sym (set_at-address source x sets there) ∙ h)) none

none-registering : (q source : ℕ) (o : Option ℕ) (count : ℕ) (sets : List Set) → source ≢ q → set_at q sets ≡ None
    → set_at q (registering source o count sets) ≡ None
none-registering q source None count sets ne none = none
none-registering q source (Some h) count sets ne none = at-with_other q (mastered source h count) sets ne ∙ none

none-after : (q : ℕ) (t : State) (source : ℕ) (n : FrameMeaning) (sets : List Set) → source ≢ q → set_at q sets ≡ None → set_at q (sets_after t source n sets) ≡ None
none-after q t source (Claim name) sets ne none = none-closed q t source sets none
none-after q t source ClaimRequest sets ne none = none
none-after q t source (Master count) sets ne none = none-registering q source (holder t source) count sets ne none
none-after q t source (Member name) sets ne none = none-joining q source (set_at source sets) name sets refl ne none
none-after q t source Message sets ne none = none
none-after q t source Tp sets ne none = none
none-after q t source Etp sets ne none = none
none-after q t source Nothing sets ne none = none

none-claim : (b : Bool) (q : ℕ) (t : State) (source name : ℕ) (sets : List Set) → set_at q sets ≡ None
    → set_at q (sets_after t source (cond b Nothing (Claim name)) sets) ≡ None
none-claim true q t source name sets none = none
none-claim false q t source name sets none = none-closed q t source sets none

none-echo : (q : ℕ) (t : State) (source name : ℕ) (n : FrameMeaning) (sets : List Set) → set_at q sets ≡ None
    → set_at q (sets_after t source (unless_echo name n) sets) ≡ None
none-echo q t source name (Claim other) sets none = none-claim (eqb other name) q t source other sets none
none-echo q t source name ClaimRequest sets none = none
none-echo q t source name (Master count) sets none = none
none-echo q t source name (Member other) sets none = none
none-echo q t source name Message sets none = none
none-echo q t source name Tp sets none = none
none-echo q t source name Etp sets none = none
none-echo q t source name Nothing sets none = none

none-meaning : (own name : ℕ) (t : State) (f : Frame) (sets : List Set) → set_at own sets ≡ None
    → set_at own (sets_after t (source_of f) (meaning_of own name f) sets) ≡ None
none-meaning own name t f sets none =
    let there : Bool → FrameMeaning = λ b. cond b (unless_echo name (frame_meaning own f)) (frame_meaning own f) in
    by_eq (source_of f) own
    (λ is. ap (λ b. set_at own (sets_after t (source_of f) (there b) sets)) (eq-eqb (source_of f) own is)
    ∙ none-echo own t (source_of f) name (frame_meaning own f) sets none)
    (λ ne. ap (λ b. set_at own (sets_after t (source_of f) (there b) sets)) (ne_eqb (source_of f) own ne)
    ∙ none-after own t (source_of f) (frame_meaning own f) sets ne none)

none-by : (s t : State) (e : JudgedInput) → set_at s.claims.own s.sets ≡ None → set_at s.claims.own (sets_by s t e) ≡ None
none-by s t (FrameAt time f verdict) none =
    let sets = heard_sets s time in
    let still = none-filter s.claims.own (λ set. not (set_is_silent (at_time s time) set)) s.sets none in
    cases s.lost (loses s f) sets (sets_after t (source_of f) (meaning_of s.claims.own s.claims.name f) sets) still
    (none-meaning s.claims.own s.claims.name t f sets still)
  where
    cases : (lost gone : Bool) (sets after : List Set) → set_at s.claims.own sets ≡ None → set_at s.claims.own after ≡ None
        → set_at s.claims.own (cond lost s.sets (cond gone sets after)) ≡ None
    cases true gone sets after still its = none
    cases false true sets after still its = still
    cases false false sets after still its = its
none-by s t (ActionAt action shown) none = none

-- ---- the law

pub after-steps : Laws → SetsAfterSteps
after-steps laws = record {
  listed = λ s e orderly is. step-list laws s orderly is e;
  first = λ s none. record {
    elsewhere = ap (set_at s.claims.own) none;
    held = (held laws).first s none;
  };
  preloaded = λ a s contents apart is. record {
    elsewhere =
        (λ i. set_at (act-is s a (Preloads contents) i).claims.own (act-is s a (Preloads contents) i).sets)
        ∙ at-with_other s.claims.own (preloaded a) s.sets apart ∙ is.elsewhere;
    held = (held laws).preloaded a s contents is.held;
  };
  settled = λ s e orderly is. record {
    elsewhere =
        ap (λ q. set_at q (step s e).after.sets) (own-step s e)
        ∙ ap (set_at s.claims.own) (step-list laws s orderly is e) ∙ none-by s (step s e).after e is.elsewhere;
    held = (held laws).kept s e orderly is.held;
  };
}
