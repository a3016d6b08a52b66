-- A frame changes no object of a set at another address, while the shown set stays.
use Rattle.std.proofs.Common.{◌≡◌, ◌≢◌, ◌⊎◌, inl, inr, ℕ, Bool, true, false, cond, eqb, List, [], ◌∷◌, ◌++◌, Option, Some, None, refl, sym, ap, ap₂, subst, ◌∙◌, nat_eq, eq-eqb}
use Rattle.std.proofs.lemmas.List.Elements.{filter-append}
use Rattle.std.specs.Prelude.{IfSome, IsSomeAnd}
use Rattle.std.specs.List.{AllByRecursion}
use Rattle.std.specs.Option.{option_eq}
use Rattle.vt_can.specs.declared.frames.frame.Frame.{Frame}
use Rattle.vt_can.specs.frames.Frame.{source_of}
use Rattle.vt_machine.specs.SetStates.{SetState}
use Rattle.vt_names.specs.Claims.{address_of}
use Rattle.vt_stores.specs.Stores.{ObjectMap}
use Rattle.vt_node.specs.Bus.{meaning_of}
use Rattle.vt_node.specs.AddressFunctions.{with_at}
use Rattle.vt_node.specs.declared.bus.FrameMeaning.{FrameMeaning}
use Rattle.vt_node.specs.declared.bus.FrameMeaning.TheVariants.{Claim, ClaimRequest, Master, Member, Message, Tp, Etp, Nothing}
use Rattle.vt_server.specs.shown.ShownSet.{choosing, shown_now, events_of_change, raised_at, ACTIVATE, DEACTIVATE}
use Rattle.vt_server.specs.frame.TimeoutActs.{after_tp_timeouts, after_etp_timeouts, after_timeouts, at_time, etp_due, lapsed, sending_due, silences, tp_due}
use Rattle.vt_server.specs.state.AddressViews.{AddressView, Act, Hears, Rebinds}
use Rattle.vt_server.specs.Steps.{FrameAt, step, before, acts, acted, acting, answer_to, changes, changes_by, former_address, former_holder, heard_at_source, hearing, is_lost_by, losing, no_step, rebind_acts, rebind_former_acts, step_frame, with_shown_updated}
use Rattle.vt_server.specs.Terminals.{State, holder, part, pool_of, after_act, after_acts}
use Rattle.vt_server.specs.message.Verdicts.{Verdict}
use Rattle.vt_server.proofs.lemmas.acts.HolderChanges.{shown-acts}
use Rattle.vt_node.proofs.ByAddress.{at-own, at-other}
use Rattle.vt_names.proofs.AddressesAfterClaim.{by_eq}
use Rattle.vt_laws.specs.Headline.{Pools, Run, accepted_after, accepted_at, accepted_by_acts, accepted_in_hearing, runs, runs_at, runs_of_acts, runs_of_hearing, runs_of_shown_update}
use Rattle.vt_laws.specs.RunsOfSteps.{Lead, OthersKeepObjects, RunsAreOfSteps, objects_in, runs_there}
use Rattle.vt_laws.proofs.lemmas.pools.PoolAfterStep.{none-there, runs-at}

-- ---- acts that begin no run at an address, and accept no pool there

-- The act is at another address, or a change of the holder.
abbrev IsQuiet : ℕ → ℕ × Act → Type 0
IsQuiet q h = (q ≢ h.0) ⊎ (h.1 ≡ Rebinds)

-- the acts of a frame are quiet at all addresses but its source
quiet-rebind : (q : ℕ) (b : Bool) (address : ℕ) → AllByRecursion (IsQuiet q) (cond b [] ((address, Rebinds) ∷ []))
quiet-rebind q true address = tt
quiet-rebind q false address = (inr refl, tt)

quiet-append : (q : ℕ) (xs ys : List (ℕ × Act)) → AllByRecursion (IsQuiet q) xs → AllByRecursion (IsQuiet q) ys → AllByRecursion (IsQuiet q) (xs ++ ys)
quiet-append q [] ys first second = second
quiet-append q (x ∷ xs) ys first second = (first.0, quiet-append q xs ys first.1 second)

quiet-former : (q : ℕ) (was : Option ℕ) (t : State) (former : Option ℕ) → AllByRecursion (IsQuiet q) (rebind_former_acts was t former)
quiet-former q was t None = tt
quiet-former q was t (Some former) = quiet-rebind q (option_eq nat_eq was (holder t former)) former

quiet-changes : (q : ℕ) (s : State) (source : ℕ) (n : FrameMeaning) → AllByRecursion (IsQuiet q) (changes s source n)
quiet-changes q s source (Claim name) =
    let t = before s source (Claim name) in
    let former = former_address source (address_of s.claims.addresses name) in
    quiet-append q (rebind_former_acts (former_holder s former) t former) (rebind_acts (holder s source) t source)
    (quiet-former q (former_holder s former) t former) (quiet-rebind q (option_eq nat_eq (holder s source) (holder t source)) source)
quiet-changes q s source ClaimRequest = tt
quiet-changes q s source (Master count) = tt
quiet-changes q s source (Member name) = tt
quiet-changes q s source Message = tt
quiet-changes q s source Tp = tt
quiet-changes q s source Etp = tt
quiet-changes q s source Nothing = tt

quiet-heard : (q : ℕ) (b : Bool) (source : ℕ) (h : Act) → q ≢ source → AllByRecursion (IsQuiet q) (cond b [] ((source, h) ∷ []))
quiet-heard q true source h other = tt
quiet-heard q false source h other = (inl other, tt)

quiet-acts : (q : ℕ) (s : State) (source : ℕ) (n : FrameMeaning) (f : Frame) (verdict : Verdict) → q ≢ source → AllByRecursion (IsQuiet q) (acts s source n f verdict)
quiet-acts q s source n f verdict other =
    quiet-append q (changes s source n) (heard_at_source s.claims.own source n f verdict) (quiet-changes q s source n) (quiet-heard q (eqb source s.claims.own) source (Hears n f verdict) other)

quiet-runs : (q now a : ℕ) (p : AddressView) (act : Act) → IsQuiet q (a, act) → runs_there q (runs_at now a p act) ≡ []
quiet-runs q now a p act (inl other) = none-there a q (runs_at now a p act) other (runs-at now a p act)
quiet-runs q now a p act (inr rebinds) = ap (λ (h : Act). runs_there q (runs_at now a p h)) rebinds

no-runs : (q : ℕ) (s : State) (hs : List (ℕ × Act)) → AllByRecursion (IsQuiet q) hs → runs_there q (runs_of_acts s hs) ≡ []
no-runs q s [] quiet = refl
no-runs q s (h ∷ hs) quiet =
    filter-append (λ (run : Run). eqb run.address q) (runs_at s.now h.0 (part h.0 s) h.1) (runs_of_acts (after_act s h.0 h.1) hs)
    ∙ ap₂ (λ (xs ys : List Run). xs ++ ys) (quiet-runs q s.now h.0 (part h.0 s) h.1 quiet.0) (no-runs q (after_act s h.0 h.1) hs quiet.1)

quiet-accepts : (q now a : ℕ) (p : AddressView) (act : Act) (pools : Pools) → IsQuiet q (a, act)
    → with_at a (accepted_at now a p act (pools a)) pools q ≡ pools q
quiet-accepts q now a p act pools (inl other) = at-other a q pools (accepted_at now a p act (pools a)) other
quiet-accepts q now a p act pools (inr rebinds) =
    ap (λ (h : Act). with_at a (accepted_at now a p h (pools a)) pools q) rebinds ∙ by_eq q a mine (λ other. at-other a q pools (pools a) other)
  where
    mine : q ≡ a → with_at a (pools a) pools q ≡ pools q
    mine same = ap (λ (r : ℕ). with_at a (pools a) pools r) same ∙ at-own a pools (pools a) ∙ ap pools (sym same)

none-accepted : (q : ℕ) (s : State) (hs : List (ℕ × Act)) (pools : Pools) → AllByRecursion (IsQuiet q) hs → accepted_by_acts s hs pools q ≡ pools q
none-accepted q s [] pools quiet = refl
none-accepted q s (h ∷ hs) pools quiet =
    none-accepted q (after_act s h.0 h.1) hs (with_at h.0 (accepted_at s.now h.0 (part h.0 s) h.1 (pools h.0)) pools) quiet.1
    ∙ quiet-accepts q s.now h.0 (part h.0 s) h.1 pools quiet.0

-- ---- the shown set

-- Timeouts and closings leave the address of the shown set.
lapsed-shown : (s : State) → (lapsed s).shown ≡ s.shown
unfolding lapsed
lapsed-shown s =
    shown-acts (after_timeouts s) (silences (after_timeouts s)) ∙ shown-acts (after_etp_timeouts s) (sending_due (after_etp_timeouts s))
    ∙ shown-acts (after_tp_timeouts s) (etp_due (after_tp_timeouts s)) ∙ shown-acts s (tp_due s)

updated-shown : (s : State) → (with_shown_updated s).shown ≡ shown_now s
unfolding with_shown_updated
updated-shown s = shown-acts (choosing s) (events_of_change s.shown (shown_now s))

same-option : (o : Option ℕ) → option_eq nat_eq o o ≡ true
same-option None = refl
same-option (Some n) = eq-eqb n n refl

no-change : (was now : Option ℕ) → now ≡ was → events_of_change was now ≡ []
no-change was now same =
    subst (λ (o : Option ℕ). events_of_change was o ≡ []) (sym same)
    (ap (λ (b : Bool). cond b [] (raised_at was DEACTIVATE ++ raised_at was ACTIVATE)) (same-option was))

no-update : (q : ℕ) (s : State) → (with_shown_updated s).shown ≡ s.shown → runs_there q (runs_of_shown_update s) ≡ []
no-update q s same =
    ap (λ (hs : List (ℕ × Act)). runs_there q (runs_of_acts (choosing s) hs)) (no-change s.shown (shown_now s) (sym (updated-shown s) ∙ same))

-- ---- a frame

module _ (q : ℕ) (s t : State) (source : ℕ) (n : FrameMeaning) (f : Frame) (verdict : Verdict) (other : q ≢ source) where
  acted-shown : (acted t source n f verdict).shown ≡ t.shown
  acted-shown = shown-acts (before t source n) (acts t source n f verdict)

  hearing-runs : (b : Bool) → (cond b (losing t) (acting s t source n f verdict)).after.shown ≡ t.shown
      → runs_there q (cond b [] (runs_of_acts (before t source n) (acts t source n f verdict) ++ runs_of_shown_update (acted t source n f verdict))) ≡ []
  hearing-runs true same = refl
  hearing-runs false same =
      filter-append (λ (run : Run). eqb run.address q) (runs_of_acts (before t source n) (acts t source n f verdict)) (runs_of_shown_update (acted t source n f verdict))
      ∙ ap₂ (λ (xs ys : List Run). xs ++ ys) (no-runs q (before t source n) (acts t source n f verdict) (quiet-acts q t source n f verdict other))
      (no-update q (acted t source n f verdict) (same ∙ sym acted-shown))

  hearing-accepts : (b : Bool) (pools : Pools) → cond b pools (accepted_by_acts (before t source n) (acts t source n f verdict) pools) q ≡ pools q
  hearing-accepts true pools = refl
  hearing-accepts false pools = none-accepted q (before t source n) (acts t source n f verdict) pools (quiet-acts q t source n f verdict other)

module _ (s : State) (time : ℕ) (f : Frame) (verdict : Verdict) (q : ℕ) (other : q ≢ source_of f) where
  abbrev t : State
  t = lapsed (at_time s time)

  abbrev n : FrameMeaning
  n = meaning_of s.claims.own s.claims.name f

  step-runs : (lost : Bool) → (cond lost (no_step s) (step_frame s time f verdict)).after.shown ≡ s.shown
      → runs_there q (cond lost [] (runs_of_hearing t (source_of f) n f verdict)) ≡ []
  step-runs true same = refl
  step-runs false same =
      hearing-runs q s t (source_of f) n f verdict other (is_lost_by (answer_to t (source_of f) n)) (same ∙ sym (lapsed-shown (at_time s time)))

  step-accepts : (lost : Bool) → cond lost (objects_in s) (accepted_in_hearing t (source_of f) n f verdict (objects_in s)) q ≡ objects_in s q
  step-accepts true = refl
  step-accepts false = hearing-accepts q s t (source_of f) n f verdict other (is_lost_by (answer_to t (source_of f) n)) (objects_in s)

led : (new : Option SetState) (x y : Option ObjectMap) (rs : List Run) → x ≡ y → rs ≡ []
    → IfSome new (λ state. IsSomeAnd x (λ old. Lead old rs state.objects)) → IfSome new (λ state. IsSomeAnd y (λ old. state.objects ≡ old))
led None x y rs same none law = tt
led (Some state) x y rs same none law = found y (subst (λ (o : Option ObjectMap). IsSomeAnd o (λ old. Lead old [] state.objects)) same
    (subst (λ (l : List Run). IsSomeAnd x (λ old. Lead old l state.objects)) none law))
  where
    found : (o : Option ObjectMap) → IsSomeAnd o (λ old. Lead old [] state.objects) → IsSomeAnd o (λ old. state.objects ≡ old)
    found None is = is
    found (Some old) is = is

pub others-keep : RunsAreOfSteps → OthersKeepObjects
others-keep law s time f verdict q other same =
    led (pool_of (step s (FrameAt time f verdict)).after q) (accepted_after s (FrameAt time f verdict) (objects_in s) q) (objects_in s q)
    (runs_there q (runs s (FrameAt time f verdict))) (step-accepts s time f verdict q other s.lost) (step-runs s time f verdict q other s.lost same)
    (law.lead s (FrameAt time f verdict) q)
