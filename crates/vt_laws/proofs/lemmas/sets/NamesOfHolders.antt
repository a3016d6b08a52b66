-- A set with a NAME has the NAME of its address's holder after every act.
use Rattle.std.proofs.Common.{ap, ◌∙◌, ◌≡◌, ℕ, Bool, true, false, cond, ◌||◌, [], ◌∷◌, Option, Some, None, refl, sym, subst, nat_eq}
use Rattle.std.specs.Option.{option_eq}
use Rattle.vt_can.specs.declared.frames.frame.Frame.{Frame}
use Rattle.vt_can.specs.frames.Frame.{source_of}
use Rattle.vt_names.specs.Claims.{Claimed, IsRisingByName}
use Rattle.vt_names.specs.Registry.{Set, set_at, has_place, with_member}
use Rattle.vt_node.specs.Bus.{meaning_of}
use Rattle.vt_server.specs.shown.ShownSet.{choosing, shown_now, events_of_change}
use Rattle.vt_laws.specs.Happenings.{NameIsHeld, SetIsHeld, SetsHoldTheirAddress}
use Rattle.vt_server.specs.state.StateInvariants.{IsOrderly}
use Rattle.vt_server.specs.frame.TimeoutActs.{at_time, lapsed}
use Rattle.vt_server.specs.state.AddressViews.{AddressView, Act, Rebinds, Operates, Preloads, unchanged, without_set, after_change, with_holder_name, after_claim_heard, after_master, after_member, outcome}
use Rattle.vt_server.specs.Steps.{JudgedInput, FrameAt, ActionAt, step, before, changes, heard_at_source, answer_to, is_lost_by, with_shown_updated, losing, acted, acting, no_step, step_frame, selecting, at_shown, step_action}
use Rattle.vt_server.specs.Terminals.{State, holder, part, after_act, after_acts}
use Rattle.vt_server.specs.message.Verdicts.{Verdict}
use Rattle.vt_node.specs.declared.bus.FrameMeaning.{FrameMeaning}
use Rattle.vt_server.proofs.lemmas.acts.HolderChanges.{option-true, of-changes}
use Rattle.vt_server.proofs.lemmas.steps.StepInvariants.{acts-keep, lapsed-keeps, step-keeps, preloading-keeps, orderly-kept, own-step, claims-lapsed}
use Rattle.vt_laws.proofs.lemmas.views.ActChangesOneView.{outcome-holds, bare, turns, part-act, part-act_other, part-acts}
use Rattle.vt_server.proofs.lemmas.acts.ComposedActs.{acts-append, beside-act}
use Rattle.vt_laws.proofs.lemmas.views.ViewsAfterSteps.{selecting-same}
use Rattle.vt_laws.proofs.lemmas.views.OutcomesWithoutTimes.{Laws}
use Rattle.vt_names.proofs.AddressesAfterClaim.{by_eq}

-- ---- claims and registration

named-held : (set : Set) (x y : Option ℕ) → set.name ≡ x → NameIsHeld x y → NameIsHeld (with_holder_name set x y).name y
named-held set None None e has = subst (λ n. NameIsHeld n None) (sym e) tt
named-held set None (Some h) e has = refl
named-held set (Some n) None e has = subst (λ m. NameIsHeld m None) (sym e) has
named-held set (Some n) (Some h) e has = subst (λ m. NameIsHeld m (Some h)) (sym e) has

claim-held : (p : AddressView) (o : Option Set) → SetIsHeld p.set p.holder → SetIsHeld o p.holder → SetIsHeld (after_claim_heard p o).set p.holder
claim-held p None has its = has
claim-held p (Some set) has its = named-held set set.name p.holder refl its

master-held : (a : ℕ) (p : AddressView) (o : Option ℕ) (count : ℕ) → p.holder ≡ o → SetIsHeld p.set p.holder → SetIsHeld (after_master a p o count).set p.holder
master-held a p None count e has = has
master-held a p (Some h) count e has = e

join-held : (b : Bool) (set : Set) (name : ℕ) (holder : Option ℕ) → NameIsHeld set.name holder → NameIsHeld (cond b (with_member set name) set).name holder
join-held true set name holder has = has
join-held false set name holder has = has

member-held : (p : AddressView) (o : Option Set) (name : ℕ) → SetIsHeld p.set p.holder → SetIsHeld o p.holder → SetIsHeld (after_member p o name).set p.holder
member-held p None name has its = has
member-held p (Some set) name has its = join-held (has_place set) set name p.holder its

-- ---- a change of the holder

same-name : (n h : Option ℕ) → (option_eq nat_eq n None || option_eq nat_eq n h) ≡ true → NameIsHeld n h
same-name None h e = tt
same-name (Some n) h e = sym (option-true (Some n) h e)

kept-held : (p : AddressView) (set : Set) (b : Bool) → (option_eq nat_eq set.name None || option_eq nat_eq set.name p.holder) ≡ b → p.set ≡ Some set
    → SetIsHeld (cond b (unchanged p) (without_set p)).set p.holder
kept-held p set true e is = subst (λ o. SetIsHeld o p.holder) (sym is) (same-name set.name p.holder e)
kept-held p set false e is = tt

rebound-held : (p : AddressView) (o : Option Set) → p.set ≡ o → SetIsHeld (after_change p o).set p.holder
rebound-held p None is = subst (λ o. SetIsHeld o p.holder) (sym is) tt
rebound-held p (Some set) is = kept-held p set (option_eq nat_eq set.name None || option_eq nat_eq set.name p.holder) refl is

-- ---- every act, at any address

abbrev pub IsHeldAt : ℕ → State → Type 0
IsHeldAt a s = SetIsHeld (set_at a s.sets) (holder s a)

outcome-held : (now a : ℕ) (p : AddressView) (h : Act) → SetIsHeld p.set p.holder → SetIsHeld (outcome now a p h).set p.holder
outcome-held now a p h has = outcome-holds (λ o. SetIsHeld o p.holder) now a p (record {
  none = tt;
  same = has;
  claim = λ place. claim-held (record p { place = place }) p.set has has;
  master = λ place count. master-held a (record p { place = place }) p.holder count refl has;
  member = λ place name. member-held (record p { place = place }) p.set name has has;
  rebound = rebound-held p p.set refl;
  preloaded = tt;
}) h

pub act-held : (a : ℕ) (s : State) (b : ℕ) (h : Act) → IsHeldAt a s → IsHeldAt a (after_act s b h)
act-held a s b h has =
    by_eq b a
    (λ is. subst (λ c. IsHeldAt a (after_act s c h)) (sym is)
    (subst (λ (p : AddressView). SetIsHeld p.set p.holder) (sym (part-act a s h)) (outcome-held s.now a (part a s) h has)))
    (λ ne. subst (λ (p : AddressView). SetIsHeld p.set p.holder) (sym (part-act_other a b s h (λ e. ne (sym e)))) has)

shown_updated-held : (a : ℕ) (s : State) → IsHeldAt a s → IsHeldAt a (with_shown_updated s)
unfolding with_shown_updated
shown_updated-held a s has = acts-keep (IsHeldAt a) (act-held a) (choosing s) (events_of_change s.shown (shown_now s)) has

-- ---- a claim, and the holders that it changes

module _ (laws : Laws) (a : ℕ) (s : State) (rising : IsRisingByName s.claims.addresses) (has : IsHeldAt a s) where
  changed-held : (source : ℕ) (n : FrameMeaning) → IsHeldAt a (after_acts (before s source n) (changes s source n))
  changed-held source n =
      let t = before s source n in
      subst (λ (p : AddressView). SetIsHeld p.set p.holder)
      (sym (part-acts laws a t (changes s source n) ∙ ap (turns a (bare a t)) (of-changes laws.holders s rising a source n)))
      (cases (option_eq nat_eq (holder s a) (holder t a)) refl)
    where
      cases : (b : Bool) → option_eq nat_eq (holder s a) (holder (before s source n) a) ≡ b
          → let p = turns a (bare a (before s source n)) (cond b [] (Rebinds ∷ [])) in SetIsHeld p.set p.holder
      cases true same = subst (SetIsHeld (set_at a s.sets)) (option-true (holder s a) (holder (before s source n) a) same) has
      cases false other = rebound-held (bare a (before s source n)) (set_at a s.sets) refl

  acted-held : (source : ℕ) (n : FrameMeaning) (f : Frame) (verdict : Verdict) → IsHeldAt a (acted s source n f verdict)
  acted-held source n f verdict =
      let t = before s source n in
      let last = heard_at_source s.claims.own source n f verdict in
      subst (IsHeldAt a) (sym (acts-append t (changes s source n) last))
      (acts-keep (IsHeldAt a) (act-held a) (after_acts t (changes s source n)) last (changed-held source n))

step-held : Laws → (a : ℕ) (s : State) (e : JudgedInput) → IsOrderly s → IsHeldAt a s → IsHeldAt a (step s e).after
step-held laws a s (FrameAt time f verdict) orderly has = cases s.lost
  where
    heard : (gone : Bool) → let u = lapsed (at_time s time) in
        IsHeldAt a (cond gone (losing u) (acting s u (source_of f) (meaning_of s.claims.own s.claims.name f) f verdict)).after
    heard gone =
        let t = at_time s time in
        let still = lapsed-keeps (IsHeldAt a) (act-held a) t has in
        by-loss still
        (shown_updated-held a (acted (lapsed t) (source_of f) (meaning_of s.claims.own s.claims.name f) f verdict)
        (acted-held laws a (lapsed t) (subst (λ (c : Claimed). IsRisingByName c.addresses) (sym (claims-lapsed t)) orderly.rising) still
        (source_of f) (meaning_of s.claims.own s.claims.name f) f verdict)) gone
      where
        by-loss : let u = lapsed (at_time s time) in
            IsHeldAt a u → IsHeldAt a (acting s u (source_of f) (meaning_of s.claims.own s.claims.name f) f verdict).after → (gone : Bool)
            → IsHeldAt a (cond gone (losing u) (acting s u (source_of f) (meaning_of s.claims.own s.claims.name f) f verdict)).after
        by-loss still then-still true = still
        by-loss still then-still false = then-still

    cases : (lost : Bool) → IsHeldAt a (cond lost (no_step s) (step_frame s time f verdict)).after
    cases true = has
    cases false = heard (is_lost_by (answer_to (lapsed (at_time s time)) (source_of f) (meaning_of s.claims.own s.claims.name f)))
step-held laws a s (ActionAt action shown) orderly has = cases s.lost
  where
    cases : (lost : Bool) → IsHeldAt a (cond lost (no_step s) (step_action s action shown)).after
    cases true = has
    cases false =
        let u = selecting s action in
        let hs = at_shown s.shown (Operates action shown) in
        let there : IsHeldAt a u = subst (λ (p : AddressView). SetIsHeld p.set p.holder) (sym (selecting-same (part a) (λ x o. refl) s action)) has in
        shown_updated-held a (after_acts u hs) (acts-keep (IsHeldAt a) (act-held a) u hs there)

-- ---- the law

pub none-held : (o : Option Set) (holder : Option ℕ) → o ≡ None → SetIsHeld o holder
none-held o holder none = subst (λ p. SetIsHeld p holder) (sym none) tt

pub held : Laws → SetsHoldTheirAddress
held laws = record {
  first = λ s none a _. none-held (set_at a s.sets) (holder s a) (ap (set_at a) none);
  preloaded = λ a s contents has b apart. act-held b s a (Preloads contents) (has b (λ h. apart (h ∙ sym (beside-act (λ (t : State). t.claims.own) (λ c o t. refl) s a (Preloads contents)))));
  kept = λ s e orderly has a apart. step-held laws a s e orderly (has a (λ h. apart (h ∙ sym (own-step s e))));
  orderly = λ s e orderly. step-keeps IsOrderly (orderly-kept laws.holders) s e orderly;
  orderly_preloaded = λ a s contents orderly. preloading-keeps IsOrderly (orderly-kept laws.holders) a s contents orderly;
}
