-- The working sets after all changes of the registry, and their order (ISO 11783-6; docs/PROFILE.md, "Working sets").
use Rattle.std.specs.Prelude.{◌≡◌, ◌<◌, ◌≤◌, ℕ, suc, ◌-◌, ◌==◌, Bool, true, false, ◌||◌, if◌then◌else◌, List, [], ◌∷◌, ◌++◌, length, map, take, Option, Some, None, is_some}
use Rattle.std.specs.List.{AllByRecursion}
use Rattle.vt_names.specs.Registry.{Set, set_at, with_set, without, registering, joining, binding, preloaded, member_count}

-- A change of the registry: a master message, with the holder of its address and its count; a member message, with
-- its NAME; a closing; a preloading; or a NAME for the set of an address.
pub data RegistryInput : Type 0 where
  Masters : ℕ → Option ℕ → ℕ → RegistryInput
  Joins : ℕ → ℕ → RegistryInput
  Closes : ℕ → RegistryInput
  Preloads : ℕ → RegistryInput
  Binds : ℕ → ℕ → RegistryInput

-- ---- sets by all changes; lists of changes have the latest first

-- the change registers a set of the address
abbrev pub registers : ℕ → RegistryInput → Bool
registers address (Masters other (Some holder) count) = other == address
registers address (Preloads other) = other == address
registers address _ = false

abbrev pub closes : ℕ → RegistryInput → Bool
closes address (Closes other) = other == address
closes address _ = false

abbrev pub since : Option ℕ → ℕ → ℕ
since (Some time) now = time
since None now = now

-- The time of registration of an address's set, as the number of changes before it. A new registration of an
-- existing set keeps its time.
abbrev pub registered_at : List RegistryInput → ℕ → Option ℕ
registered_at [] address = None
registered_at (event ∷ earlier) address =
    if registers address event then Some (since (registered_at earlier address) (length earlier))
    else if closes address event then None
    else registered_at earlier address

-- the times are strictly rising
abbrev pub AreRising : ℕ → List (Option ℕ) → Type 0
AreRising least [] = Unit {0}
AreRising least (None ∷ times) = ⊥
AreRising least (Some time ∷ times) = (least ≤ time) × AreRising (suc time) times

-- ---- the last registration of an address, and the changes since

abbrev pub registration_name : RegistryInput → Option ℕ
registration_name (Masters address holder count) = holder
registration_name _ = None

abbrev pub registration_count : RegistryInput → ℕ
registration_count (Masters address holder count) = member_count count
registration_count _ = 1

-- the last NAME bound to an address, or `first` if there is none
abbrev pub bound_name : ℕ → List RegistryInput → Option ℕ → Option ℕ
bound_name address [] first = first
bound_name address (Binds other name ∷ earlier) first = if other == address then Some name else bound_name address earlier first
bound_name address (event ∷ earlier) first = bound_name address earlier first

-- the NAMEs in the member messages of an address, in order
abbrev pub member_names : ℕ → List RegistryInput → List ℕ
member_names address [] = []
member_names address (Joins other name ∷ earlier) = member_names address earlier ++ (if other == address then name ∷ [] else [])
member_names address (event ∷ earlier) = member_names address earlier

-- A set is that of the last registration of its address. It has the count of that registration, its NAME or the one
-- bound to it since, and the first members announced since, up to its count less one.
pub record IsOfLast (events : List RegistryInput) (address : ℕ) (set : Set) : Type 0 where
  pub since : List RegistryInput
  pub registration : RegistryInput
  pub before : List RegistryInput
  pub all : events ≡ since ++ registration ∷ before
  pub of_address : registers address registration ≡ true
  pub last : AllByRecursion (λ event. (registers address event || closes address event) ≡ false) since
  pub name : set.name ≡ bound_name address since (registration_name registration)
  pub count : set.count ≡ registration_count registration
  pub members : set.members ≡ take (set.count - 1) (member_names address since)

-- ---- the recorded sets

abbrev pub after_event : RegistryInput → List Set → List Set
after_event (Masters address holder count) sets = registering address holder count sets
after_event (Joins address name) sets = joining (set_at address sets) name sets
after_event (Closes address) sets = without address sets
after_event (Preloads address) sets = with_set (preloaded address) sets
after_event (Binds address name) sets = binding (set_at address sets) name sets

abbrev pub after_events : List RegistryInput → List Set
after_events [] = []
after_events (event ∷ earlier) = after_event event (after_events earlier)

abbrev pub times_of : (ℕ → Option ℕ) → List Set → List (Option ℕ)
times_of at sets = map (λ set. at set.address) sets

-- each set has fewer members than its count
abbrev pub AreWithin : List Set → Type 0
AreWithin [] = Unit {0}
AreWithin (set ∷ sets) = (length set.members < set.count) × AreWithin sets

-- The sets are those registered and not closed since, one for each address, in order of registration. Each has fewer
-- members than its count, and is determined by its last registration and the changes since.
pub record SetsAreRegistered : Type 0 where
  pub there : (events : List RegistryInput) (address : ℕ) → is_some (set_at address (after_events events)) ≡ is_some (registered_at events address)
  pub order : (events : List RegistryInput) → AreRising 0 (times_of (registered_at events) (after_events events))
  pub within : (events : List RegistryInput) → AreWithin (after_events events)
  pub last : (events : List RegistryInput) (address : ℕ) (set : Set) → set_at address (after_events events) ≡ Some set → IsOfLast events address set
