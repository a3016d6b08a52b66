-- The shown set after an input has a pool: it is chosen from the sets with a pool, and the events of its change remove none.
use Rattle.std.proofs.Common.{◌≡◌, ℕ, Bool, true, false, cond, List, [], ◌∷◌, Option, Some, None, is_some, refl, sym, ap, subst, ◌∙◌, nat_le}
use Rattle.vt_can.specs.declared.frames.frame.Frame.{Frame}
use Rattle.vt_machine.specs.SetStates.{SetState}
use Rattle.vt_names.specs.Registry.{Set}
use Rattle.vt_server.specs.shown.ShownSet.{alarm_in, choosing, events_of_change, first_with_pool, louder, loudest, or_selected, selected_now, shown_now}
use Rattle.vt_server.specs.state.AddressViews.{Act, AddressView, Raises, outcome, raised_on}
use Rattle.vt_server.specs.state.AddressStates.{AddressState}
use Rattle.vt_server.specs.Steps.{acted, acting, answer_to, hearing, is_lost_by, losing, with_shown_updated}
use Rattle.vt_server.specs.Terminals.{State, pool_of, pool_at, part, after_act, after_acts}
use Rattle.vt_server.specs.message.Verdicts.{Verdict}
use Rattle.vt_server.specs.declared.shown.Alarm.{Alarm}
use Rattle.vt_node.specs.AddressFunctions.{with_at}
use Rattle.vt_node.specs.declared.bus.FrameMeaning.{FrameMeaning}
use Rattle.vt_server.proofs.lemmas.acts.AddressedActs.{AllAt, at-change}
use Rattle.vt_server.proofs.lemmas.acts.HolderChanges.{shown-acts}
use Rattle.vt_server.proofs.lemmas.shown.EventsOfChange.{some-mapped}
use Rattle.vt_server.proofs.lemmas.acts.ComposedActs.{act-is}
use Rattle.vt_node.proofs.ByAddress.{at-own, at-other}
use Rattle.vt_names.proofs.AddressesAfterClaim.{by_eq}

-- An address, if there is one, has a pool.
abbrev pub HasPoolAt : (ℕ → Option SetState) → Option ℕ → Type 0
HasPoolAt pools None = Unit {0}
HasPoolAt pools (Some a) = is_some (pools a) ≡ true

abbrev pub ShownHasPool : State → Type 0
ShownHasPool s = HasPoolAt (pool_of s) s.shown

-- ---- the choice

module _ (pools : ℕ → Option SetState) where
  first-pooled : (sets : List Set) → HasPoolAt pools (first_with_pool pools sets)
  first-pooled [] = tt
  first-pooled (set ∷ sets) = cases (is_some (pools set.address)) refl (first-pooled sets)
    where
      cases : (b : Bool) → is_some (pools set.address) ≡ b → HasPoolAt pools (first_with_pool pools sets)
          → HasPoolAt pools (cond b (Some set.address) (first_with_pool pools sets))
      cases true is rest = is
      cases false is rest = rest

  abbrev AlarmHasPool : Option Alarm → Type 0
  AlarmHasPool None = Unit {0}
  AlarmHasPool (Some alarm) = is_some (pools alarm.address) ≡ true

  alarm-pooled : (pool : Option SetState) → is_some (alarm_in pool) ≡ true → is_some pool ≡ true
  alarm-pooled None some = some
  alarm-pooled (Some state) some = refl

  louder-pooled : (a : ℕ) (priority : Option ℕ) (other : Option Alarm) → (is_some priority ≡ true → is_some (pools a) ≡ true) → AlarmHasPool other
      → AlarmHasPool (louder a priority other)
  louder-pooled a None other own rest = rest
  louder-pooled a (Some priority) None own rest = own refl
  louder-pooled a (Some priority) (Some other) own rest = cases (nat_le priority other.priority)
    where
      cases : (b : Bool) → AlarmHasPool (cond b (Some (record { address = a; priority = priority })) (Some other))
      cases true = own refl
      cases false = rest

  loudest-pooled : (sets : List Set) → AlarmHasPool (loudest pools sets)
  loudest-pooled [] = tt
  loudest-pooled (set ∷ sets) =
      louder-pooled set.address (alarm_in (pools set.address)) (loudest pools sets) (alarm-pooled (pools set.address)) (loudest-pooled sets)

  or-pooled : (alarm : Option Alarm) (selected : Option ℕ) → AlarmHasPool alarm → HasPoolAt pools selected → HasPoolAt pools (or_selected alarm selected)
  or-pooled None selected loud is = is
  or-pooled (Some alarm) selected loud is = loud

module _ (s : State) where
  -- If `other` has a pool, so has the choice of `o` if it has a pool, and else of `other`.
  kept-pooled : (o other : Option ℕ) → HasPoolAt (pool_of s) other → HasPoolAt (pool_of s) (cond (is_some (pool_at s o)) o other)
  kept-pooled None other is = is
  kept-pooled (Some a) other is = cases (is_some (pool_of s a)) refl
    where
      cases : (b : Bool) → is_some (pool_of s a) ≡ b → HasPoolAt (pool_of s) (cond b (Some a) other)
      cases true there = there
      cases false there = is

  chosen-pooled : HasPoolAt (pool_of s) (shown_now s)
  chosen-pooled =
      or-pooled (pool_of s) (loudest (pool_of s) s.sets) (selected_now s) (loudest-pooled (pool_of s) s.sets)
      (kept-pooled s.selected (first_with_pool (pool_of s) s.sets) (first-pooled (pool_of s) s.sets))

-- ---- the events of its change

abbrev KeepsPool : Act → Type 0
KeepsPool act = (now a : ℕ) (p : AddressView) → is_some p.place.content.pool ≡ true → is_some (outcome now a p act).place.content.pool ≡ true

raises-keeps : (event : ℕ) → KeepsPool (Raises event)
raises-keeps event now a p is = some-mapped (λ state. raised_on state event) p.place.content.pool ∙ is

act-keeps : (s : State) (a b : ℕ) (h : Act) → KeepsPool h → is_some (pool_of s b) ≡ true → is_some (pool_of (after_act s a h) b) ≡ true
act-keeps s a b h keeps is =
    let place : AddressState = (outcome s.now a (part a s) h).place in
    subst (λ (t : State). is_some (pool_of t b) ≡ true) (sym (act-is s a h))
    (by_eq b a
    (λ here. ap (λ q. is_some (with_at a place s.places q).content.pool) here
    ∙ ap (λ (x : AddressState). is_some x.content.pool) (at-own a s.places place)
    ∙ keeps s.now a (part a s) (ap (λ q. is_some (pool_of s q)) (sym here) ∙ is))
    (λ ne. ap (λ (x : AddressState). is_some x.content.pool) (at-other a b s.places place ne) ∙ is))

acts-keep : (s : State) (b : ℕ) (hs : List (ℕ × Act)) → AllAt (λ a h. KeepsPool h) hs → is_some (pool_of s b) ≡ true → is_some (pool_of (after_acts s hs) b) ≡ true
acts-keep s b [] all is = is
acts-keep s b (h ∷ hs) all is = acts-keep (after_act s h.0 h.1) b hs all.1 (act-keeps s h.0 b h.1 all.0 is)

acts-pooled : (s : State) (hs : List (ℕ × Act)) → AllAt (λ a h. KeepsPool h) hs → ShownHasPool s → ShownHasPool (after_acts s hs)
acts-pooled s hs all is = subst (HasPoolAt (pool_of (after_acts s hs))) (sym (shown-acts s hs)) (cases s.shown is)
  where
    cases : (o : Option ℕ) → HasPoolAt (pool_of s) o → HasPoolAt (pool_of (after_acts s hs)) o
    cases None has = tt
    cases (Some a) has = acts-keep s a hs all has

shown_updated-pooled : (s : State) → ShownHasPool (with_shown_updated s)
unfolding with_shown_updated
shown_updated-pooled s =
    let hs = events_of_change s.shown (shown_now s) in
    acts-pooled (choosing s) hs (at-change (λ a h. KeepsPool h) (λ a event. raises-keeps event) s.shown (shown_now s)) (chosen-pooled s)

-- The shown set after a frame has a pool.
pub hearing-pooled : (old s : State) (source : ℕ) (n : FrameMeaning) (f : Frame) (verdict : Verdict) → ShownHasPool (hearing old s source n f verdict).after
hearing-pooled old s source n f verdict = cases (is_lost_by (answer_to s source n))
  where
    cases : (b : Bool) → ShownHasPool (cond b (losing s) (acting old s source n f verdict)).after
    cases true = kept-pooled s s.shown None tt
    cases false = shown_updated-pooled (acted s source n f verdict)
