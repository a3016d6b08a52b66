-- The selected set and the shown set, by the order of registration.
use Rattle.std.proofs.Common.{◌≡◌, ◌≤◌, ◌<◌, ◌↔◌, ℕ, zero, suc, Bool, true, false, cond, leb, List, [], ◌∷◌, Option, Some, None, is_some, refl, sym, ap, subst, ◌∙◌, arith, inl, inr, eqb-true, leb-true, leb-false}
use Rattle.std.proofs.lemmas.Bool.{false_from_ne_true}
use Rattle.std.proofs.lemmas.Option.{same_Some}
use Rattle.std.specs.Prelude.{slice_get}
use Rattle.std.specs.FinMap as finite
use Rattle.vt_kinds.specs.declared.object.Object.TheVariants as objects
use Rattle.vt_kinds.specs.Records.{Seen}
use Rattle.vt_machine.specs.SetStates.{SetState, active_in}
use Rattle.vt_names.specs.Registry.{Set, set_at, is_of}
use Rattle.vt_server.specs.shown.ShownSet.{alarm_in, priority_of, louder, loudest, first_with_pool, selected_now, or_selected, shown_now}
use Rattle.vt_server.specs.Terminals.{State, pool_of, pool_at}
use Rattle.vt_laws.specs.ShownSets.{HasPool, HasAlarm, IsRegisteredAt, ComesFirst, IsLoudest, IsFirstWithPool, HasNoAlarm, IsSelected, IsChosen, PoolsAreOfSets}
use Rattle.vt_names.proofs.AddressesAfterClaim.{none-some}

-- ---- indices in a list of sets

-- The set at this index has the address.
abbrev StandsAt : List Set → ℕ → ℕ → Type 0
StandsAt sets place a = (set : Set) × (slice_get sets place ≡ Some set) × (set.address ≡ a)

-- The set at index 0 is the first one.
front-is : (t : Set) (sets : List Set) (a : ℕ) → StandsAt (t ∷ sets) 0 a → t.address ≡ a
front-is t sets a at = ap (λ (x : Set). x.address) (same_Some t at.0 at.1) ∙ at.2

-- The address at an index is unique.
place-one : (sets : List Set) (place a b : ℕ) → StandsAt sets place a → StandsAt sets place b → a ≡ b
place-one sets place a b at other = sym at.2 ∙ ap (λ (x : Set). x.address) (same_Some at.0 other.0 (sym at.1 ∙ other.1)) ∙ other.2

nowhere : {P : Type 0} (place a : ℕ) → StandsAt [] place a → P
nowhere place a at = none-some at.1

-- Each set in a list has an index.
record HasPlace (sets : List Set) (a : ℕ) : Type 0 where
  pub place : ℕ
  pub at : StandsAt sets place a

has-place : (sets : List Set) (a : ℕ) → is_some (set_at a sets) ≡ true → HasPlace sets a
has-place [] a has = absurd cc
has-place (t ∷ sets) a has = cases (has-place sets a) (is_of a t) refl has
  where
    cases : (is_some (set_at a sets) ≡ true → HasPlace sets a) → (b : Bool) → is_of a t ≡ b → is_some (cond b (Some t) (set_at a sets)) ≡ true
        → HasPlace (t ∷ sets) a
    cases rest true is there = record { place = 0; at = (t, refl, eqb-true t.address a is) }
    cases rest false is there = let more = rest there in record { place = suc more.place; at = more.at }

no-two : {A P : Type 0} (b : Bool) (x y : A) → cond b (Some x) (Some y) ≡ None → P
no-two true x y none = none-some (sym none)
no-two false x y none = none-some (sym none)

-- ---- the first set with a pool

module _ (pools : ℕ → Option SetState) where
  record FirstIn (sets : List Set) (a : ℕ) : Type 0 where
    pub place : ℕ
    pub at : StandsAt sets place a
    pub has : is_some (pools a) ≡ true
    pub first : (later next : ℕ) → StandsAt sets later next → is_some (pools next) ≡ true → place ≤ later

  later-first : (t : Set) (sets : List Set) (place : ℕ) → is_some (pools t.address) ≡ false
      → ((later next : ℕ) → StandsAt sets later next → is_some (pools next) ≡ true → place ≤ later)
      → (later next : ℕ) → StandsAt (t ∷ sets) later next → is_some (pools next) ≡ true → suc place ≤ later
  later-first t sets place none first zero next at has =
      let no : false ≡ true = sym none ∙ ap (λ (b : ℕ). is_some (pools b)) (front-is t sets next at) ∙ has in absurd cc
  later-first t sets place none first (suc later) next at has = let le = first later next at has in omega arith

  first-is : (sets : List Set) (a : ℕ) → first_with_pool pools sets ≡ Some a → FirstIn sets a
  first-is [] a is = none-some is
  first-is (t ∷ sets) a is = cases (first-is sets a) (is_some (pools t.address)) refl is
    where
      cases : (first_with_pool pools sets ≡ Some a → FirstIn sets a) → (b : Bool) → is_some (pools t.address) ≡ b
          → cond b (Some t.address) (first_with_pool pools sets) ≡ Some a → FirstIn (t ∷ sets) a
      cases more true has e =
          let same : t.address ≡ a = same_Some t.address a e in
          record { place = 0; at = (t, refl, same); has = ap (λ (b : ℕ). is_some (pools b)) (sym same) ∙ has; first = λ later next at some. omega arith }
      cases more false none e =
          let rest = more e in
          record { place = suc rest.place; at = rest.at; has = rest.has; first = later-first t sets rest.place none rest.first }

  -- If there is no first set with a pool, no set has a pool.
  first-none : (sets : List Set) → first_with_pool pools sets ≡ None → (place a : ℕ) → StandsAt sets place a → is_some (pools a) ≡ true → ⊥
  first-none [] none place a at has = nowhere place a at
  first-none (t ∷ sets) none place a at has = cases (λ e k. first-none sets e k a) (is_some (pools t.address)) refl none place at
    where
      cases : (first_with_pool pools sets ≡ None → (k : ℕ) → StandsAt sets k a → is_some (pools a) ≡ true → ⊥)
          → (b : Bool) → is_some (pools t.address) ≡ b → cond b (Some t.address) (first_with_pool pools sets) ≡ None
          → (k : ℕ) → StandsAt (t ∷ sets) k a → ⊥
      cases more true is e k there = none-some (sym e)
      cases more false is e zero there =
          let no : false ≡ true = sym is ∙ ap (λ (b : ℕ). is_some (pools b)) (front-is t sets a there) ∙ has in absurd cc
      cases more false is e (suc k) there = more e k there has

  -- ---- the loudest alarm

  record LoudIn (sets : List Set) (a priority : ℕ) : Type 0 where
    pub place : ℕ
    pub at : StandsAt sets place a
    pub alarm : alarm_in (pools a) ≡ Some priority
    pub least : (later next other : ℕ) → StandsAt sets later next → alarm_in (pools next) ≡ Some other → ComesFirst priority place other later

  same-loud : (sets : List Set) (a b p q : ℕ) → a ≡ b → p ≡ q → LoudIn sets a p → LoudIn sets b q
  same-loud sets a b p q here same loud = subst (λ (n : ℕ). LoudIn sets b n) same (subst (λ (n : ℕ). LoudIn sets n p) here loud)

  -- The alarm of the first set.
  front-alarm : (t : Set) (sets : List Set) (next other : ℕ) (o : Option ℕ) → alarm_in (pools t.address) ≡ o → StandsAt (t ∷ sets) 0 next
      → alarm_in (pools next) ≡ Some other → o ≡ Some other
  front-alarm t sets next other o is at alarm = sym is ∙ ap (λ (b : ℕ). alarm_in (pools b)) (front-is t sets next at) ∙ alarm

  louder-none : (a : ℕ) (o : Option ℕ) (r : _) → louder a o r ≡ None → (o ≡ None) × (r ≡ None)
  louder-none a None r none = (refl, none)
  louder-none a (Some p) None none = none-some (sym none)
  louder-none a (Some p) (Some alarm) none = no-two (leb p alarm.priority) _ _ none

  -- If there is no loudest alarm, no set has an alarm.
  loudest-none : (sets : List Set) → loudest pools sets ≡ None → (place a priority : ℕ) → StandsAt sets place a
      → alarm_in (pools a) ≡ Some priority → ⊥
  loudest-none [] none place a priority at alarm = nowhere place a at
  loudest-none (t ∷ sets) none zero a priority at alarm =
      let parts = louder-none t.address (alarm_in (pools t.address)) (loudest pools sets) none in
      none-some (sym parts.0 ∙ front-alarm t sets a priority (alarm_in (pools t.address)) refl at alarm)
  loudest-none (t ∷ sets) none (suc place) a priority at alarm =
      let parts = louder-none t.address (alarm_in (pools t.address)) (loudest pools sets) none in
      loudest-none sets parts.1 place a priority at alarm

  -- An alarm that comes first still does after both move one index up.
  behind : (priority place other later : ℕ) → ComesFirst priority place other later → ComesFirst priority (suc place) other (suc later)
  behind priority place other later (inl lt) = inl lt
  behind priority place other later (inr same) = inr (same.0, omega (arith, same.1))

  -- An alarm of the first set comes first if its priority number is not greater than that of an alarm that does.
  in-front : (p priority place other later : ℕ) → p ≤ priority → ComesFirst priority place other later → ComesFirst p 0 other (suc later)
  in-front p priority place other later le (inl lt) = inl (omega arith)
  in-front p priority place other later le (inr same) = cases (leb priority p) refl
    where
      cases : (b : Bool) → leb priority p ≡ b → ComesFirst p 0 other (suc later)
      cases true is = let ge = leb-true priority p is in inr (omega (arith, same.0), omega arith)
      cases false is = let lt = leb-false priority p is in inl (omega (arith, same.0))

  module _ (t : Set) (sets : List Set) where
    -- The alarm of the first set is the loudest if it comes before each later one.
    front-loud : (p : ℕ) → alarm_in (pools t.address) ≡ Some p
        → ((later next other : ℕ) → StandsAt sets later next → alarm_in (pools next) ≡ Some other → ComesFirst p 0 other (suc later))
        → LoudIn (t ∷ sets) t.address p
    front-loud p is least = record { place = 0; at = (t, refl, refl); alarm = is; least = all }
      where
        all : (later next other : ℕ) → StandsAt (t ∷ sets) later next → alarm_in (pools next) ≡ Some other → ComesFirst p 0 other later
        all zero next other at its = inr (same_Some p other (front-alarm t sets next other (Some p) is at its), omega arith)
        all (suc later) next other at its = least later next other at its

    -- The loudest of the later alarms is the loudest if the first set has no alarm, or one of a greater priority number.
    later-loud : (a p : ℕ) → LoudIn sets a p → ((next other : ℕ) → StandsAt (t ∷ sets) 0 next → alarm_in (pools next) ≡ Some other → p < other)
        → LoudIn (t ∷ sets) a p
    later-loud a p loud front = record { place = suc loud.place; at = loud.at; alarm = loud.alarm; least = all }
      where
        all : (later next other : ℕ) → StandsAt (t ∷ sets) later next → alarm_in (pools next) ≡ Some other → ComesFirst p (suc loud.place) other later
        all zero next other at is = inl (front next other at is)
        all (suc later) next other at is = behind p loud.place other later (loud.least later next other at is)

    loud-of-two : (p q a : ℕ) (b : Bool) → alarm_in (pools t.address) ≡ Some p → LoudIn sets a q → leb p q ≡ b
        → LoudIn (t ∷ sets) (cond b t.address a) (cond b p q)
    loud-of-two p q a true own rest test =
        front-loud p own (λ place next other at its. in-front p q rest.place other place (leb-true p q test) (rest.least place next other at its))
    loud-of-two p q a false own rest test =
        later-loud a q rest (λ next other at its.
        let same : p ≡ other = same_Some p other (front-alarm t sets next other (Some p) own at its) in
        let lt = leb-false p q test in omega arith)

    -- The loudest alarm is the louder of the first set's and the loudest later one.
    loud-step : (o : Option ℕ) (r alarm : _) → alarm_in (pools t.address) ≡ o → loudest pools sets ≡ r
        → ((later : _) → r ≡ Some later → LoudIn sets later.address later.priority) → louder t.address o r ≡ Some alarm
        → LoudIn (t ∷ sets) alarm.address alarm.priority
    loud-step None r alarm own is rest e =
        later-loud alarm.address alarm.priority (rest alarm e) (λ next other at its. none-some (front-alarm t sets next other None own at its))
    loud-step (Some p) None alarm own is rest e =
        let same = same_Some _ alarm e in
        same-loud (t ∷ sets) t.address alarm.address p alarm.priority (λ i. (same i).address) (λ i. (same i).priority)
        (front-loud p own (λ place next other at its. absurd (loudest-none sets is place next other at its)))
    loud-step (Some p) (Some later) alarm own is rest e = cases (leb p later.priority) refl e
      where
        cases : (b : Bool) → leb p later.priority ≡ b → cond b (louder t.address (Some p) None) (Some later) ≡ Some alarm
            → LoudIn (t ∷ sets) alarm.address alarm.priority
        cases true test f =
            let same = same_Some _ alarm f in
            same-loud (t ∷ sets) t.address alarm.address p alarm.priority (λ i. (same i).address) (λ i. (same i).priority)
            (loud-of-two p later.priority later.address true own (rest later refl) test)
        cases false test f =
            let same = same_Some later alarm f in
            same-loud (t ∷ sets) later.address alarm.address later.priority alarm.priority (λ i. (same i).address) (λ i. (same i).priority)
            (loud-of-two p later.priority later.address false own (rest later refl) test)

  loud-is : (sets : List Set) (alarm : _) → loudest pools sets ≡ Some alarm → LoudIn sets alarm.address alarm.priority
  loud-is [] alarm is = none-some is
  loud-is (t ∷ sets) alarm is = loud-step t sets (alarm_in (pools t.address)) (loudest pools sets) alarm refl refl (loud-is sets) is

-- ---- the sets of a state

stands : (s : State) (place a : ℕ) → IsRegisteredAt s place a → StandsAt s.sets place a
stands s place a at = (at.set, at.there, at.address_is)

registered : (s : State) (place a : ℕ) → StandsAt s.sets place a → IsRegisteredAt s place a
registered s place a at = record { set = at.0; there = at.1; address_is = at.2 }

-- An alarm as computed is the one in the pool.
alarm-of-mask : (s : State) (a p : ℕ) (state : SetState) → pool_of s a ≡ Some state → (o : Option Seen)
    → finite.get state.objects (active_in state.objects) ≡ o → priority_of o ≡ Some p → HasAlarm s a p
alarm-of-mask s a p state is (Some (objects.AlarmMask m)) at e =
    record { state = state; pool = is; mask = m; active = at; priority_is = same_Some m.priority p e }
alarm-of-mask s a p state is _ at e = none-some e

alarm-to : (s : State) (a p : ℕ) → alarm_in (pool_of s a) ≡ Some p → HasAlarm s a p
alarm-to s a p e = by (pool_of s a) refl e
  where
    by : (o : Option SetState) → pool_of s a ≡ o → alarm_in o ≡ Some p → HasAlarm s a p
    by None is none = none-some none
    by (Some state) is its = alarm-of-mask s a p state is (finite.get state.objects (active_in state.objects)) refl its

alarm-from : (s : State) (a p : ℕ) → HasAlarm s a p → alarm_in (pool_of s a) ≡ Some p
alarm-from s a p h = ap alarm_in h.pool ∙ ap priority_of h.active ∙ ap Some h.priority_is

-- ---- the selected set

-- The first set with a pool is unique.
first-one : (s : State) (a : ℕ) → IsFirstWithPool s a → first_with_pool (pool_of s) s.sets ≡ Some a
first-one s a first = cases (first_with_pool (pool_of s) s.sets) refl
  where
    cases : (o : Option ℕ) → first_with_pool (pool_of s) s.sets ≡ o → o ≡ Some a
    cases None none = absurd (first-none (pool_of s) s.sets none first.place a (stands s first.place a first.registered) first.has_pool)
    cases (Some b) is =
        let it = first-is (pool_of s) s.sets b is in
        let below = it.first first.place a (stands s first.place a first.registered) first.has_pool in
        let above = first.first it.place b (registered s it.place b it.at) it.has in
        let same : it.place ≡ first.place = omega arith in
        ap Some (place-one s.sets first.place b a (subst (λ (k : ℕ). StandsAt s.sets k b) same it.at) (stands s first.place a first.registered))

pub first-with : (s : State) (a : ℕ) → first_with_pool (pool_of s) s.sets ≡ Some a → IsFirstWithPool s a
first-with s a is =
    let it = first-is (pool_of s) s.sets a is in
    record {
      place = it.place;
      registered = registered s it.place a it.at;
      has_pool = it.has;
      first = λ later next at has. it.first later next (stands s later next at) has;
    }

pub selected-to : (s : State) (a : ℕ) → selected_now s ≡ Some a → IsSelected s a
selected-to s a e = cases s.selected refl (is_some (pool_at s s.selected)) refl e
  where
    cases : (o : Option ℕ) → s.selected ≡ o → (b : Bool) → is_some (pool_at s o) ≡ b → cond b o (first_with_pool (pool_of s) s.sets) ≡ Some a
        → IsSelected s a
    cases o at true has is = inl (at ∙ is, ap (λ (q : Option ℕ). is_some (pool_at s q)) (sym is) ∙ has)
    cases o at false none is = inr (
      λ old its has. let no : false ≡ true = sym none ∙ ap (λ (q : Option ℕ). is_some (pool_at s q)) (sym at ∙ its) ∙ has in absurd cc,
      first-with s a is,
    )

no-pool : (s : State) (o : Option ℕ) → ((old : ℕ) → o ≡ Some old → HasPool s old → ⊥) → is_some (pool_at s o) ≡ false
no-pool s None never = refl
no-pool s (Some b) never = false_from_ne_true (is_some (pool_of s b)) (λ has. never b refl has)

selected-from : (s : State) (a : ℕ) → IsSelected s a → selected_now s ≡ Some a
selected-from s a (inl is) =
    ap (λ b. cond b s.selected (first_with_pool (pool_of s) s.sets)) (ap (λ (q : Option ℕ). is_some (pool_at s q)) is.0 ∙ is.1) ∙ is.0
selected-from s a (inr is) =
    ap (λ b. cond b s.selected (first_with_pool (pool_of s) s.sets)) (no-pool s s.selected is.0) ∙ first-one s a is.1

pub selected-is : (s : State) (a : ℕ) → (selected_now s ≡ Some a) ↔ IsSelected s a
selected-is s a = (selected-to s a, selected-from s a)

-- ---- the shown set

to-quiet : (s : State) → loudest (pool_of s) s.sets ≡ None → HasNoAlarm s
to-quiet s none place a priority at alarm = loudest-none (pool_of s) s.sets none place a priority (stands s place a at) (alarm-from s a priority alarm)

from-quiet : (s : State) → HasNoAlarm s → loudest (pool_of s) s.sets ≡ None
from-quiet s quiet = cases (loudest (pool_of s) s.sets) refl
  where
    cases : (o : _) → loudest (pool_of s) s.sets ≡ o → o ≡ None
    cases None none = refl
    cases (Some alarm) is =
        let it = loud-is (pool_of s) s.sets alarm is in
        absurd (quiet it.place alarm.address alarm.priority (registered s it.place alarm.address it.at) (alarm-to s alarm.address alarm.priority it.alarm))

to-loudest : (s : State) (alarm : _) → loudest (pool_of s) s.sets ≡ Some alarm → IsLoudest s alarm.address
to-loudest s alarm is =
    let it = loud-is (pool_of s) s.sets alarm is in
    record {
      place = it.place;
      priority = alarm.priority;
      registered = registered s it.place alarm.address it.at;
      alarm = alarm-to s alarm.address alarm.priority it.alarm;
      least = λ later next other at its. it.least later next other (stands s later next at) (alarm-from s next other its);
    }

-- Two alarms that come first before each other have one index.
same-place : (p k q l : ℕ) → ComesFirst p k q l → ComesFirst q l p k → k ≡ l
same-place p k q l (inl x) (inl y) = absurd (omega arith)
same-place p k q l (inl x) (inr y) = absurd (omega (arith, y.0))
same-place p k q l (inr x) (inl y) = absurd (omega (arith, x.0))
same-place p k q l (inr x) (inr y) = omega (arith, x.1, y.1)

shown-loudest : (s : State) (a : ℕ) → IsLoudest s a → shown_now s ≡ Some a
shown-loudest s a loud = cases (loudest (pool_of s) s.sets) refl
  where
    cases : (o : _) → loudest (pool_of s) s.sets ≡ o → or_selected o (selected_now s) ≡ Some a
    cases None none = absurd (loudest-none (pool_of s) s.sets none loud.place a loud.priority (stands s loud.place a loud.registered) (alarm-from s a loud.priority loud.alarm))
    cases (Some alarm) is =
        let it = loud-is (pool_of s) s.sets alarm is in
        let same : it.place ≡ loud.place = same-place alarm.priority it.place loud.priority loud.place
        (it.least loud.place a loud.priority (stands s loud.place a loud.registered) (alarm-from s a loud.priority loud.alarm))
        (loud.least it.place alarm.address alarm.priority (registered s it.place alarm.address it.at) (alarm-to s alarm.address alarm.priority it.alarm)) in
        ap Some
        (place-one s.sets loud.place alarm.address a (subst (λ (k : ℕ). StandsAt s.sets k alarm.address) same it.at)
        (stands s loud.place a loud.registered))

pub shown-to : (s : State) (a : ℕ) → shown_now s ≡ Some a → IsChosen s a
shown-to s a e = cases (loudest (pool_of s) s.sets) refl e
  where
    cases : (o : _) → loudest (pool_of s) s.sets ≡ o → or_selected o (selected_now s) ≡ Some a → IsChosen s a
    cases None none is = inr (to-quiet s none, selected-to s a is)
    cases (Some alarm) loud is = inl (subst (IsLoudest s) (same_Some alarm.address a is) (to-loudest s alarm loud))

shown-from : (s : State) (a : ℕ) → IsChosen s a → shown_now s ≡ Some a
shown-from s a (inl loud) = shown-loudest s a loud
shown-from s a (inr is) = let quiet = from-quiet s is.0 in (λ i. or_selected (quiet i) (selected_now s)) ∙ selected-from s a is.1

pub shown-is : (s : State) (a : ℕ) → (shown_now s ≡ Some a) ↔ IsChosen s a
shown-is s a = (shown-to s a, shown-from s a)

-- ---- a set is shown whenever a set has a pool

none-selected : (s : State) → selected_now s ≡ None → first_with_pool (pool_of s) s.sets ≡ None
none-selected s e = cases (is_some (pool_at s s.selected)) refl e
  where
    cases : (b : Bool) → is_some (pool_at s s.selected) ≡ b → cond b s.selected (first_with_pool (pool_of s) s.sets) ≡ None
        → first_with_pool (pool_of s) s.sets ≡ None
    cases true has none = let no : false ≡ true = ap (λ (q : Option ℕ). is_some (pool_at s q)) (sym none) ∙ has in absurd cc
    cases false has none = none

none-shown : (o : _) (selected : Option ℕ) → or_selected o selected ≡ None → selected ≡ None
none-shown None selected none = none
none-shown (Some alarm) selected none = none-some (sym none)

pub some-shown : (s : State) (a : ℕ) → PoolsAreOfSets s → shown_now s ≡ None → HasPool s a → ⊥
some-shown s a are none has =
    let it = has-place s.sets a (are.registered a has) in
    first-none (pool_of s) s.sets (none-selected s (none-shown (loudest (pool_of s) s.sets) (selected_now s) none)) it.place a it.at has
