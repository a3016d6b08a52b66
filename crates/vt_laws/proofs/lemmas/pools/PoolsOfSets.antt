-- After every input only registered sets have a pool, and the shown set and the selected set have one.
use Rattle.std.proofs.Common.{◌≡◌, ℕ, Bool, true, false, cond, List, [], ◌++◌, Option, Some, None, is_some, refl, sym, ap, subst, ◌∙◌, nat_eq, inl, inr}
use Rattle.std.specs.Option.{option_eq, option_map}
use Rattle.vt_can.specs.declared.frames.frame.Frame.{Frame}
use Rattle.vt_can.specs.frames.Frame.{source_of}
use Rattle.vt_can.specs.lines.Actions.{ActionValue}
use Rattle.vt_machine.specs.SetStates.{SetState}
use Rattle.vt_machine.specs.OperatorActions as operating
use Rattle.vt_names.specs.Registry.{Set}
use Rattle.vt_node.specs.Bus.{meaning_of}
use Rattle.vt_node.specs.declared.bus.FrameMeaning.{FrameMeaning}
use Rattle.vt_node.specs.declared.bus.FrameMeaning.TheVariants.{Claim, ClaimRequest, Master, Member, Message, Tp, Etp, Nothing}
use Rattle.vt_server.specs.shown.ShownSet.{selected_now, shown_now, choosing, raised_at, events_of_change, ACTIVATE, DEACTIVATE}
use Rattle.vt_server.specs.frame.TimeoutActs.{at_time, lapsed}
use Rattle.vt_server.specs.operator.ActionEffects.{action_on, is_busy}
use Rattle.vt_server.specs.state.AddressViews.{AddressView, AddressOutcome, Act, Hears, Rebinds, Preloads, TpExpires, EtpExpires, SendingExpires, FallsSilent, Operates, Raises, outcome, stays_under, after_action, after_change, after_claim_heard, after_master, after_member, after_message, after_operator, raised_on}
use Rattle.vt_server.specs.state.AddressStates.{AddressState, empty, heard_at}
use Rattle.vt_server.specs.frame.SessionEffects.{came}
use Rattle.vt_server.specs.Steps.{JudgedInput, FrameAt, ActionAt, step, acted, answer_to, is_lost_by, with_shown_updated, losing, acting, no_step, step_frame, selecting, at_shown, step_action, preloading}
use Rattle.vt_server.specs.Terminals.{State, pool_of, pool_at, part, after_act, after_acts}
use Rattle.vt_server.specs.message.Verdicts.{Verdict}
use Rattle.vt_stores.specs.Stores.{ObjectMap}
use Rattle.vt_laws.specs.ShownSets.{HasPool, IsChosen, IsSelected, PoolsAreOfSets, ShownAreChosen}
use Rattle.vt_names.proofs.AddressesAfterClaim.{by_eq, none-some}
use Rattle.vt_server.proofs.lemmas.acts.HolderChanges.{shown-acts}
use Rattle.vt_server.proofs.lemmas.steps.StepInvariants.{IsKept, step-keeps, preloading-keeps}
use Rattle.vt_server.proofs.lemmas.acts.ComposedActs.{acts-append, beside}
use Rattle.vt_laws.proofs.lemmas.sets.SelectedAndShownSet.{selected-is, selected-to, shown-is, shown-to, some-shown}
use Rattle.vt_laws.proofs.lemmas.views.ActChangesOneView.{part-act, part-act_other}

-- ---- only addresses with a set have a pool

abbrev IsBacked : Option Set → Option SetState → Type 0
IsBacked set pool = is_some pool ≡ true → is_some set ≡ true

abbrev PartIsBacked : AddressView → Type 0
PartIsBacked p = IsBacked p.set p.place.content.pool

abbrev LeavesBacked : AddressOutcome → Type 0
LeavesBacked after = IsBacked after.set after.place.content.pool

none-backed : (set : Option Set) → IsBacked set None
none-backed set has = absurd cc

some-backed : (set : Set) (pool : Option SetState) → IsBacked (Some set) pool
some-backed set pool has = refl

either-backed : (b : Bool) (x y : AddressOutcome) → LeavesBacked x → LeavesBacked y → LeavesBacked (cond b x y)
either-backed true x y first second = first
either-backed false x y first second = second

-- ---- messages

message-backed : (a : ℕ) (p : AddressView) (verdict : Verdict) (o : Option Set) (message : Option (List ℕ)) → p.set ≡ o → PartIsBacked p
    → LeavesBacked (after_message a p verdict o message)
message-backed a p verdict (Some set) (Some bytes) is backed = λ has. ap (λ (x : Option Set). is_some x) is
message-backed a p verdict (Some set) None is backed = backed
message-backed a p verdict None message is backed = backed

heard-backed : (now a : ℕ) (p : AddressView) (n : FrameMeaning) (f : Frame) (verdict : Verdict) → PartIsBacked p → LeavesBacked (outcome now a p (Hears n f verdict))
heard-backed now a p (Claim name) f verdict backed = cases p.set
  where
    cases : (o : Option Set) → LeavesBacked (after_claim_heard (record p { place = heard_at now p.place }) o)
    cases None = backed
    cases (Some set) = λ has. refl
heard-backed now a p (Master count) f verdict backed = cases p.holder
  where
    cases : (o : Option ℕ) → LeavesBacked (after_master a (record p { place = heard_at now p.place }) o count)
    cases None = backed
    cases (Some holder) = λ has. refl
heard-backed now a p (Member name) f verdict backed = cases p.set
  where
    cases : (o : Option Set) → LeavesBacked (after_member (record p { place = heard_at now p.place }) o name)
    cases None = backed
    cases (Some set) = λ has. refl
heard-backed now a p ClaimRequest f verdict backed = message-backed a (record p { place = heard_at now p.place }) verdict p.set None refl backed
heard-backed now a p Nothing f verdict backed = message-backed a (record p { place = heard_at now p.place }) verdict p.set None refl backed
heard-backed now a p Message f verdict backed =
    message-backed a (record p { place = (came now p.terminal a (heard_at now p.place) Message f).place }) verdict p.set (Some f.bytes.items) refl backed
heard-backed now a p Tp f verdict backed =
    let c = came now p.terminal a (heard_at now p.place) Tp f in message-backed a (record p { place = c.place }) verdict p.set c.message refl backed
heard-backed now a p Etp f verdict backed =
    let c = came now p.terminal a (heard_at now p.place) Etp f in message-backed a (record p { place = c.place }) verdict p.set c.message refl backed

-- ---- the operator, and events of the Working Set

action-backed : (now a : ℕ) (p : AddressView) (o : Option operating.ActionResult) → is_some p.set ≡ true → LeavesBacked (after_action now a p o)
action-backed now a p None has = λ pool. has
action-backed now a p (Some (operating.Refused refusal)) has = λ pool. has
action-backed now a p (Some (operating.Acts message start raised)) has = either-backed (is_busy message p.place.sending) _ _ (λ pool. has) (λ pool. has)

operator-backed : (now a : ℕ) (p : AddressView) (action : ActionValue) (shown : Bool) (o : Option SetState) → p.place.content.pool ≡ o → PartIsBacked p
    → LeavesBacked (after_operator now a p action shown o)
operator-backed now a p action shown None is backed = backed
operator-backed now a p action shown (Some state) is backed =
    action-backed now a p (action_on state shown action) (backed (ap (λ (x : Option SetState). is_some x) is))

some-mapped : {X Y : Type 0} (f : X → Y) (o : Option X) → is_some (option_map f o) ≡ is_some o
some-mapped f None = refl
some-mapped f (Some x) = refl

changed-backed : (p : AddressView) (o : Option Set) → PartIsBacked p → LeavesBacked (after_change p o)
changed-backed p None backed = backed
changed-backed p (Some set) backed = either-backed (stays_under set.name p.holder) _ _ backed (none-backed None)

-- ---- every act, at any address

outcome-backed : (now a : ℕ) (p : AddressView) (h : Act) → PartIsBacked p → LeavesBacked (outcome now a p h)
outcome-backed now a p (Hears n f verdict) backed = heard-backed now a p n f verdict backed
outcome-backed now a p Rebinds backed = changed-backed p p.set backed
outcome-backed now a p (Preloads contents) backed = λ has. refl
outcome-backed now a p TpExpires backed = backed
outcome-backed now a p EtpExpires backed = backed
outcome-backed now a p SendingExpires backed = backed
outcome-backed now a p FallsSilent backed = none-backed None
outcome-backed now a p (Operates action shown) backed = operator-backed now a p action shown p.place.content.pool refl backed
outcome-backed now a p (Raises event) backed = λ has. backed (sym (some-mapped (λ state. raised_on state event) p.place.content.pool) ∙ has)

abbrev IsBackedAt : ℕ → State → Type 0
IsBackedAt a s = PartIsBacked (part a s)

act-backed : (a : ℕ) (s : State) (b : ℕ) (h : Act) → IsBackedAt a s → IsBackedAt a (after_act s b h)
act-backed a s b h backed =
    by_eq b a
    (λ is. subst (λ c. IsBackedAt a (after_act s c h)) (sym is) (subst PartIsBacked (sym (part-act a s h)) (outcome-backed s.now a (part a s) h backed)))
    (λ ne. subst PartIsBacked (sym (part-act_other a b s h (λ e. ne (sym e)))) backed)

backed-kept : (a : ℕ) → IsKept (IsBackedAt a)
backed-kept a = record {
  act = λ s b h backed. act-backed a s b h backed;
  heard = λ s source n backed. backed;
  timed = λ s time backed. backed;
  chosen = λ s selected shown lost backed. backed;
}

-- ---- the chosen sets have a pool

selected-has : (s : State) (a : ℕ) → selected_now s ≡ Some a → HasPool s a
selected-has s a e = by (selected-to s a e)
  where
    by : IsSelected s a → HasPool s a
    by (inl is) = is.1
    by (inr is) = is.1.has_pool

shown-has : (s : State) (a : ℕ) → shown_now s ≡ Some a → HasPool s a
shown-has s a e = by (shown-to s a e)
  where
    selected : IsSelected s a → HasPool s a
    selected (inl is) = is.1
    selected (inr is) = is.1.has_pool

    by : IsChosen s a → HasPool s a
    by (inl loud) = ap (λ (o : Option SetState). is_some o) loud.alarm.pool
    by (inr is) = selected is.1

-- ---- events of the Working Set remove no pool

raise-leaves : (a : ℕ) (s : State) (b event : ℕ) → is_some (pool_of (after_act s b (Raises event)) a) ≡ is_some (pool_of s a)
raise-leaves a s b event =
    by_eq b a
    (λ is.
    ap (λ c. is_some (pool_of (after_act s c (Raises event)) a)) is
    ∙ ap (λ (p : AddressView). is_some p.place.content.pool) (part-act a s (Raises event)) ∙ some-mapped (λ state. raised_on state event) (pool_of s a))
    (λ ne. ap (λ (p : AddressView). is_some p.place.content.pool) (part-act_other a b s (Raises event) (λ e. ne (sym e))))

raised-leaves : (a : ℕ) (s : State) (o : Option ℕ) (event : ℕ) → is_some (pool_of (after_acts s (raised_at o event)) a) ≡ is_some (pool_of s a)
raised-leaves a s None event = refl
raised-leaves a s (Some b) event = raise-leaves a s b event

change-leaves : (a : ℕ) (s : State) (was now : Option ℕ) → is_some (pool_of (after_acts s (events_of_change was now)) a) ≡ is_some (pool_of s a)
change-leaves a s was now = cases (option_eq nat_eq was now)
  where
    cases : (b : Bool) → is_some (pool_of (after_acts s (cond b [] (raised_at was DEACTIVATE ++ raised_at now ACTIVATE))) a) ≡ is_some (pool_of s a)
    cases true = refl
    cases false =
        ap (λ (t : State). is_some (pool_of t a)) (acts-append s (raised_at was DEACTIVATE) (raised_at now ACTIVATE))
        ∙ raised-leaves a (after_acts s (raised_at was DEACTIVATE)) now ACTIVATE ∙ raised-leaves a s was DEACTIVATE

-- ---- the shown and the selected set after a step have a pool

record AreThere (s : State) : Type 0 where
  pub shown : (a : ℕ) → s.shown ≡ Some a → HasPool s a
  pub selected : (a : ℕ) → s.lost ≡ false → s.selected ≡ Some a → HasPool s a

shown_updated-there : (s : State) → AreThere (with_shown_updated s)
unfolding with_shown_updated
shown_updated-there s =
    let hs = events_of_change s.shown (shown_now s) in
    let t = after_acts (choosing s) hs in
    record {
      shown = λ a e. change-leaves a (choosing s) s.shown (shown_now s) ∙ shown-has s a (sym (shown-acts (choosing s) hs) ∙ e);
      selected = λ a has e.
          change-leaves a (choosing s) s.shown (shown_now s)
          ∙ selected-has s a (sym (beside (λ (u : State). u.selected) (λ b o u. refl) (choosing s) hs) ∙ e);
    }

losing-there : (s : State) → AreThere (losing s).after
losing-there s = record { shown = λ a e. cases a s.shown (is_some (pool_at s s.shown)) refl e; selected = λ a has e. absurd cc }
  where
    cases : (a : ℕ) (o : Option ℕ) (b : Bool) → is_some (pool_at s o) ≡ b → cond b o None ≡ Some a → HasPool s a
    cases a o true has e = ap (λ (q : Option ℕ). is_some (pool_at s q)) (sym e) ∙ has
    cases a o false none e = none-some e

step-there : (s : State) (e : JudgedInput) → AreThere s → AreThere (step s e).after
step-there s (FrameAt time f verdict) are = cases s.lost
  where
    u : State
    u = lapsed (at_time s time)

    n : FrameMeaning
    n = meaning_of s.claims.own s.claims.name f

    heard : (b : Bool) → AreThere (cond b (losing u) (acting s u (source_of f) n f verdict)).after
    heard true = losing-there u
    heard false = shown_updated-there (acted u (source_of f) n f verdict)

    cases : (b : Bool) → AreThere (cond b (no_step s) (step_frame s time f verdict)).after
    cases true = are
    cases false = heard (is_lost_by (answer_to u (source_of f) n))
step-there s (ActionAt action shown) are = cases s.lost
  where
    cases : (b : Bool) → AreThere (cond b (no_step s) (step_action s action shown)).after
    cases true = are
    cases false = shown_updated-there (after_acts (selecting s action) (at_shown s.shown (Operates action shown)))

-- ---- the law

none-first : (s : State) → ((a : ℕ) → s.places a ≡ empty) → s.selected ≡ None → s.shown ≡ None → PoolsAreOfSets s
none-first s places selected shown = record {
  registered = λ a has. let no : false ≡ true = ap (λ (p : AddressState). is_some p.content.pool) (sym (places a)) ∙ has in absurd cc;
  shown = λ a e. none-some (sym shown ∙ e);
  selected = λ a has e. none-some (sym selected ∙ e);
}

preloaded : (a : ℕ) (s : State) (contents : ObjectMap) → PoolsAreOfSets s → PoolsAreOfSets (preloading s a contents)
preloaded a s contents are =
    let t = after_act s a (Preloads contents) in
    record {
      registered = λ b has. preloading-keeps (IsBackedAt b) (backed-kept b) a s contents (are.registered b) has;
      shown = λ b e. shown-has t b e;
      selected = λ b still e. selected-has t b e;
    }

kept : (s : State) (e : JudgedInput) → PoolsAreOfSets s → PoolsAreOfSets (step s e).after
kept s e are =
    let after : AreThere (step s e).after = step-there s e (record { shown = are.shown; selected = are.selected }) in
    record {
      registered = λ a has. step-keeps (IsBackedAt a) (backed-kept a) s e (are.registered a) has;
      shown = after.shown;
      selected = after.selected;
    }

-- The events of a change leave the shown set unchanged.
shown_updated-shows : (s : State) → (with_shown_updated s).shown ≡ shown_now s
unfolding with_shown_updated
shown_updated-shows s = shown-acts (choosing s) (events_of_change s.shown (shown_now s))

pub are-chosen : ShownAreChosen
are-chosen = record {
  selected = selected-is;
  shown = shown-is;
  none = some-shown;
  shown_update_shows = shown_updated-shows;
  preloading_shows = λ s address contents. refl;
  first = none-first;
  preloaded = λ a s contents orderly are. preloaded a s contents are;
  kept = λ s e orderly are. kept s e are;
}
