-- The selected set and the shown set (docs/PROFILE.md, "The shown set and the selected set").
use Rattle.std.specs.Prelude.{◌≡◌, ◌≤◌, ◌<◌, ◌⊎◌, ◌↔◌, ℕ, true, false, Some, None, is_some, slice_get}
use Rattle.std.specs.FinMap as finite
use Rattle.vt_kinds.specs.declared.masks.AlarmMask.{AlarmMask}
use Rattle.vt_kinds.specs.declared.object.Object.TheVariants as objects
use Rattle.vt_machine.specs.SetStates.{SetState, active_in}
use Rattle.vt_names.specs.Registry.{Set, set_at}
use Rattle.vt_stores.specs.Stores.{ObjectMap}
use Rattle.vt_server.specs.shown.ShownSet.{selected_now, shown_now}
use Rattle.vt_server.specs.state.StateInvariants.{IsOrderly}
use Rattle.vt_server.specs.state.AddressStates.{empty}
use Rattle.vt_server.specs.state.AddressViews.{Preloads}
use Rattle.vt_server.specs.Steps.{JudgedInput, step, with_shown_updated, preloading}
use Rattle.vt_server.specs.Terminals.{State, pool_of, after_act}

-- ---- the choice of the selected and the shown set

abbrev pub HasPool : State → ℕ → Type 0
HasPool s address = is_some (pool_of s address) ≡ true

-- The set at this index of the order of registration has the address.
pub record IsRegisteredAt (s : State) (place address : ℕ) : Type 0 where
  pub set : Set
  pub there : slice_get s.sets place ≡ Some set
  pub address_is : set.address ≡ address

-- The active mask of the set is an Alarm Mask of this priority.
pub record HasAlarm (s : State) (address priority : ℕ) : Type 0 where
  pub state : SetState
  pub pool : pool_of s address ≡ Some state
  pub mask : AlarmMask
  pub active : finite.get state.objects (active_in state.objects) ≡ Some (objects.AlarmMask mask)
  pub priority_is : mask.priority ≡ priority

-- a lower priority number, or the same number and not registered later
abbrev pub ComesFirst : ℕ → ℕ → ℕ → ℕ → Type 0
ComesFirst priority place other later = (priority < other) ⊎ ((priority ≡ other) × (place ≤ later))

-- Among all sets with an alarm this one has the lowest number, and among equal ones it was registered first.
pub record IsLoudest (s : State) (address : ℕ) : Type 0 where
  pub place : ℕ
  pub priority : ℕ
  pub registered : IsRegisteredAt s place address
  pub alarm : HasAlarm s address priority
  pub least : (later next other : ℕ) → IsRegisteredAt s later next → HasAlarm s next other → ComesFirst priority place other later

-- Among all sets with a pool this one was registered first.
pub record IsFirstWithPool (s : State) (address : ℕ) : Type 0 where
  pub place : ℕ
  pub registered : IsRegisteredAt s place address
  pub has_pool : HasPool s address
  pub first : (later next : ℕ) → IsRegisteredAt s later next → HasPool s next → place ≤ later

-- No set has an alarm.
abbrev pub HasNoAlarm : State → Type 0
HasNoAlarm s = (place address priority : ℕ) → IsRegisteredAt s place address → HasAlarm s address priority → ⊥

-- the former selected set, if it has a pool; else the first set with a pool
abbrev pub IsSelected : State → ℕ → Type 0
IsSelected s address =
    ((s.selected ≡ Some address) × HasPool s address)
    ⊎ (((old : ℕ) → s.selected ≡ Some old → HasPool s old → ⊥) × IsFirstWithPool s address)

abbrev pub IsChosen : State → ℕ → Type 0
IsChosen s address = IsLoudest s address ⊎ (HasNoAlarm s × IsSelected s address)

-- ---- invariants of every input

-- Only registered sets have a pool. The shown set has a pool, and so has the selected set while the terminal has its own address.
pub record PoolsAreOfSets (s : State) : Type 0 where
  pub registered : (address : ℕ) → HasPool s address → is_some (set_at address s.sets) ≡ true
  pub shown : (address : ℕ) → s.shown ≡ Some address → HasPool s address
  pub selected : (address : ℕ) → s.lost ≡ false → s.selected ≡ Some address → HasPool s address

-- The chosen address is that of the first alarm, or, if there is none, that of the selected set. Some address is chosen whenever
-- a set has a pool. It is shown at the end of each step and after a preload.
pub record ShownAreChosen : Type 0 where
  pub selected : (s : State) (address : ℕ) → (selected_now s ≡ Some address) ↔ IsSelected s address
  pub shown : (s : State) (address : ℕ) → (shown_now s ≡ Some address) ↔ IsChosen s address
  pub none : (s : State) (address : ℕ) → PoolsAreOfSets s → shown_now s ≡ None → HasPool s address → ⊥
  pub shown_update_shows : (s : State) → (with_shown_updated s).shown ≡ shown_now s
  pub preloading_shows : (s : State) (address : ℕ) (contents : ObjectMap)
      → (preloading s address contents).shown ≡ shown_now (after_act s address (Preloads contents))
  -- before the first input, after a preload, and after every input
  pub first : (s : State) → ((address : ℕ) → s.places address ≡ empty) → s.selected ≡ None → s.shown ≡ None → PoolsAreOfSets s
  pub preloaded : (address : ℕ) (s : State) (contents : ObjectMap) → IsOrderly s → PoolsAreOfSets s → PoolsAreOfSets (preloading s address contents)
  pub kept : (s : State) (e : JudgedInput) → IsOrderly s → PoolsAreOfSets s → PoolsAreOfSets (step s e).after
