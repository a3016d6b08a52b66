-- Invariants of every step; no two sets have one address.
use Rattle.std.proofs.Common.{◌≡◌, ◌≢◌, ℕ, Bool, true, false, cond, not, List, [], ◌∷◌, Option, Some, None, is_some, refl, sym, ap, subst, ◌∙◌}
use Rattle.std.specs.List.{filter}
use Rattle.vt_can.specs.declared.frames.frame.Frame.{Frame}
use Rattle.vt_can.specs.frames.Frame.{source_of}
use Rattle.vt_can.specs.lines.Actions.{ActionValue, Press, Release, Select, Number, Text}
use Rattle.vt_can.specs.lines.Actions as actions
use Rattle.vt_names.specs.Claims.{Claimed, OtherHoldersStay}
use Rattle.vt_names.specs.Registry.{AreApart, Set, set_at, with_set, is_of}
use Rattle.vt_stores.specs.Stores.{ObjectMap}
use Rattle.vt_node.specs.Bus.{meaning_of}
use Rattle.vt_server.specs.shown.ShownSet.{choosing, shown_now, selected_now, events_of_change}
use Rattle.vt_server.specs.state.StateInvariants.{IsOrderly, IsOther}
use Rattle.vt_server.specs.frame.TimeoutActs.{at_time, lapsed, silences, tp_due, etp_due, sending_due, after_tp_timeouts, after_etp_timeouts, after_timeouts}
use Rattle.vt_server.specs.state.AddressViews.{Act, Operates, Preloads, outcome}
use Rattle.vt_server.specs.Steps.{JudgedInput, FrameAt, ActionAt, step, before, acts, answer_to, is_lost_by, with_shown_updated, losing, acted, acting, hearing, no_step, step_frame, selecting, at_shown, step_action, preloading}
use Rattle.vt_server.specs.Terminals.{State, pool_of, pool_at, part, after_act, after_acts, with_set_at}
use Rattle.vt_server.specs.message.Verdicts.{Verdict}
use Rattle.vt_node.specs.declared.bus.FrameMeaning.{FrameMeaning}
use Rattle.vt_node.specs.declared.bus.FrameMeaning.TheVariants.{Claim, ClaimRequest, Master, Member, Message, Tp, Etp, Nothing}
use Rattle.vt_server.proofs.lemmas.acts.ComposedActs.{act-is}
use Rattle.vt_node.proofs.Sets.{at-with_other}
use Rattle.vt_names.proofs.SetsByAddress.{set_at-first, set_at-later, with_set-first, with_set-later}
use Rattle.vt_names.proofs.AddressesAfterClaim.{by_eq, none-some}

-- a predicate that every stage of a step keeps
pub record IsKept (P : State → Type 0) : Type 0 where
  pub act : (s : State) (a : ℕ) (h : Act) → P s → P (after_act s a h)
  pub heard : (s : State) (source : ℕ) (n : FrameMeaning) → P s → P (before s source n)
  pub timed : (s : State) (time : ℕ) → P s → P (at_time s time)
  pub chosen : (s : State) (selected shown : Option ℕ) (lost : Bool) → P s → P (record s { selected = selected; shown = shown; lost = lost })

module _ (P : State → Type 0) (act : (s : State) (a : ℕ) (h : Act) → P s → P (after_act s a h)) where
  pub acts-keep : (s : State) (hs : List (ℕ × Act)) → P s → P (after_acts s hs)
  acts-keep s [] is = is
  acts-keep s (h ∷ hs) is = acts-keep (after_act s h.0 h.1) hs (act s h.0 h.1 is)

  pub lapsed-keeps : (s : State) → P s → P (lapsed s)
  unfolding lapsed
  lapsed-keeps s is =
      let t = after_tp_timeouts s in
      let u = after_etp_timeouts s in
      let v = after_timeouts s in
      acts-keep v (silences v) (acts-keep u (sending_due u) (acts-keep t (etp_due t) (acts-keep s (tp_due s) is)))

module _ (P : State → Type 0) (kept : IsKept P) where
  pub shown_updated-keeps : (s : State) → P s → P (with_shown_updated s)
  unfolding with_shown_updated
  shown_updated-keeps s is = acts-keep P kept.act (choosing s) (events_of_change s.shown (shown_now s)) (kept.chosen s (selected_now s) (shown_now s) s.lost is)

  hearing-keeps : (old s : State) (source : ℕ) (n : FrameMeaning) (f : Frame) (verdict : Verdict) → P s → P (hearing old s source n f verdict).after
  hearing-keeps old s source n f verdict is = cases (is_lost_by (answer_to s source n))
    where
      cases : (b : Bool) → P (cond b (losing s) (acting old s source n f verdict)).after
      cases true = kept.chosen s s.selected (cond (is_some (pool_at s s.shown)) s.shown None) true is
      cases false = shown_updated-keeps (acted s source n f verdict) (acts-keep P kept.act (before s source n) (acts s source n f verdict) (kept.heard s source n is))

  selecting-keeps : (s : State) (action : ActionValue) → P s → P (selecting s action)
  selecting-keeps s (Press id) is = is
  selecting-keeps s (Release id) is = is
  selecting-keeps s (Select id) is = is
  selecting-keeps s (Number id n) is = is
  selecting-keeps s (Text id text) is = is
  selecting-keeps s (actions.Set a) is = cases (is_some (pool_of s a))
    where
      cases : (b : Bool) → P (cond b (record s { selected = Some a }) s)
      cases true = kept.chosen s (Some a) s.shown s.lost is
      cases false = is

  pub step-keeps : (s : State) (e : JudgedInput) → P s → P (step s e).after
  step-keeps s (FrameAt time f verdict) is = cases s.lost
    where
      cases : (b : Bool) → P (cond b (no_step s) (step_frame s time f verdict)).after
      cases true = is
      cases false = hearing-keeps s (lapsed (at_time s time)) (source_of f) (meaning_of s.claims.own s.claims.name f) f verdict (lapsed-keeps P kept.act (at_time s time) (kept.timed s time is))
  step-keeps s (ActionAt action shown) is = cases s.lost
    where
      cases : (b : Bool) → P (cond b (no_step s) (step_action s action shown)).after
      cases true = is
      cases false =
          let u = selecting s action in
          let hs = at_shown s.shown (Operates action shown) in
          shown_updated-keeps (after_acts u hs) (acts-keep P kept.act u hs (selecting-keeps s action is))

  pub preloading-keeps : (a : ℕ) (s : State) (contents : ObjectMap) → P s → P (preloading s a contents)
  preloading-keeps a s contents is =
      let t = after_act s a (Preloads contents) in
      kept.chosen t (selected_now t) (shown_now t) t.lost (kept.act s a (Preloads contents) is)

-- ---- no two sets have one address

pub none-filter : (q : ℕ) (test : Set → Bool) (sets : List Set) → set_at q sets ≡ None → set_at q (filter test sets) ≡ None
none-filter q test [] none = refl
none-filter q test (t ∷ sets) none =
    let rest = none-filter q test sets in
    by_eq t.address q
    (λ is. none-some (sym none ∙ set_at-first q t sets is))
    (λ ne. cases ne (rest (sym (set_at-later q t sets ne) ∙ none)) (test t))
  where
    cases : t.address ≢ q → set_at q (filter test sets) ≡ None → (b : Bool) → set_at q (cond b (t ∷ filter test sets) (filter test sets)) ≡ None
    cases ne rest true = set_at-later q t (filter test sets) ne ∙ rest
    cases ne rest false = rest

pub apart-filter : (test : Set → Bool) (sets : List Set) → AreApart sets → AreApart (filter test sets)
apart-filter test [] apart = tt
apart-filter test (t ∷ sets) apart = cases (apart-filter test sets apart.1) (test t)
  where
    cases : AreApart (filter test sets) → (b : Bool) → AreApart (cond b (t ∷ filter test sets) (filter test sets))
    cases rest true = (none-filter t.address test sets apart.0, rest)
    cases rest false = rest

pub apart-with : (x : Set) (sets : List Set) → AreApart sets → AreApart (with_set x sets)
apart-with x [] apart = (refl, tt)
apart-with x (t ∷ sets) apart =
    let rest = apart-with x sets apart.1 in
    by_eq t.address x.address
    (λ is. subst AreApart (sym (with_set-first x t sets is)) (subst (λ q. set_at q sets ≡ None) is apart.0, apart.1))
    (λ ne. subst AreApart (sym (with_set-later x t sets ne)) (at-with_other t.address x sets (λ h. ne (sym h)) ∙ apart.0, rest))

apart-put : (a : ℕ) (o : Option Set) (sets : List Set) → AreApart sets → AreApart (with_set_at a o sets)
apart-put a None sets apart = apart-filter (λ set. not (is_of a set)) sets apart
apart-put a (Some x) sets apart = apart-with x sets apart

-- ---- a state stays orderly with the same own address

act-orderly : (s : State) (a : ℕ) (h : Act) → IsOrderly s → IsOrderly (after_act s a h)
act-orderly s a h orderly = subst IsOrderly (sym (act-is s a h)) (record {
  rising = orderly.rising;
  apart = apart-put a (outcome s.now a (part a s) h).set s.sets orderly.apart;
})

before-orderly : OtherHoldersStay → (s : State) (source : ℕ) (n : FrameMeaning) → IsOrderly s → IsOrderly (before s source n)
before-orderly law s source (Claim name) orderly = record { rising = law.rising s.claims.addresses source name orderly.rising; apart = orderly.apart }
before-orderly law s source ClaimRequest orderly = orderly
before-orderly law s source (Master count) orderly = orderly
before-orderly law s source (Member name) orderly = orderly
before-orderly law s source Message orderly = orderly
before-orderly law s source Tp orderly = orderly
before-orderly law s source Etp orderly = orderly
before-orderly law s source Nothing orderly = orderly

pub orderly-kept : OtherHoldersStay → IsKept IsOrderly
orderly-kept law = record {
  act = act-orderly;
  heard = before-orderly law;
  timed = λ s time orderly. record { rising = orderly.rising; apart = orderly.apart };
  chosen = λ s selected shown lost orderly. record { rising = orderly.rising; apart = orderly.apart };
}

-- Predicates on the own address and NAME hold after each step.
pub own-kept : (Q : ℕ → ℕ → Type 0) → IsKept (λ s. Q s.claims.own s.claims.name)
own-kept Q = record {
  act = λ s a h is. subst (λ (c : Claimed). Q c.own c.name) (sym (ap (λ (t : State). t.claims) (act-is s a h))) is;
  heard = heard;
  timed = λ s time is. is;
  chosen = λ s selected shown lost is. is;
}
  where
    heard : (s : State) (source : ℕ) (n : FrameMeaning) → Q s.claims.own s.claims.name → Q (before s source n).claims.own (before s source n).claims.name
    heard s source (Claim name) is = is
    heard s source ClaimRequest is = is
    heard s source (Master count) is = is
    heard s source (Member name) is = is
    heard s source Message is = is
    heard s source Tp is = is
    heard s source Etp is = is
    heard s source Nothing is = is

pub own-step : (s : State) (e : JudgedInput) → (step s e).after.claims.own ≡ s.claims.own
own-step s e = step-keeps (λ t. t.claims.own ≡ s.claims.own) (own-kept (λ own name. own ≡ s.claims.own)) s e refl

pub other-step : (a : ℕ) (s : State) (e : JudgedInput) → IsOther a s → IsOther a (step s e).after
other-step a s e other = record { small = other.small; other = λ h. other.other (h ∙ own-step s e) }

pub claims-lapsed : (s : State) → (lapsed s).claims ≡ s.claims
claims-lapsed s = lapsed-keeps (λ t. t.claims ≡ s.claims) (λ t a h is. ap (λ (u : State). u.claims) (act-is t a h) ∙ is) s refl
