-- Sessions by address, each with the time of its last frame (docs/PROFILE.md, "Timeouts").
use Rattle.std.specs.Prelude.{◌≡◌, ◌≢◌, ◌==◌, ◌<◌, ◌≤◌, ℕ, zero, suc, ◌+◌, ◌-◌, Bool, true, false, nat_lt, if◌then◌else◌, Option, Some, None, List, [], ◌∷◌, ◌++◌, length, get_or, refl}
use Rattle.std.specs.Ordering.{nat_cmp}
use Rattle.std.specs.Coded.{Coded, code_by, coded×, coded_ℕ, coded_bool}
use Rattle.std.specs.FinMap as finite
use Rattle.vt_can.specs.declared.transport.sessions.Timed.{Timed}

abbrev pub timed_code : {T : Type 0} → Coded T → Coded (Timed T)
timed_code {T} code =
    code_by (ℕ × T) (coded× coded_ℕ code) (λ s. (s.last, s.session)) (λ p. record { last = p.0; session = p.1 }) (λ _. refl)

abbrev pub ByAddress : Type 0 → Type 0
ByAddress T = finite.FinMap nat_cmp (Timed T)

-- the map of entries, the first of them for this address
abbrev pub map_of_places : {X : Type 0} → ℕ → List (Option X) → finite.FinMap nat_cmp X
map_of_places address [] = finite.empty
map_of_places address (None ∷ places) = map_of_places (suc address) places
map_of_places address (Some x ∷ places) = finite.insert (map_of_places (suc address) places) address x

-- the sessions, whether the table of the 256 addresses is allocated, and the protocol's timeout
pub record SessionTable (T : Type 0) : Type 0 where
  pub sessions : ByAddress T
  pub allocated : Bool
  pub timeout : ℕ

abbrev pub table_code : {T : Type 0} → Coded T → Coded (SessionTable T)
table_code {T} code =
    code_by (ByAddress T × (Bool × ℕ)) (coded× (finite.code coded_ℕ (timed_code code)) (coded× coded_bool coded_ℕ))
    (λ t. (t.sessions, (t.allocated, t.timeout))) (λ p. record { sessions = p.0; allocated = p.1.0; timeout = p.1.1 }) (λ _. refl)

abbrev pub table_of_places : {T : Type 0} → ℕ → List (Option (Timed T)) → SessionTable T
table_of_places timeout places = record { sessions = map_of_places 0 places; allocated = length places == 256; timeout = timeout }

-- an entry for each address or none at all, and no session's last frame is before `earliest`
pub record ArePlaces {T : Type 0} (places : List (Option (Timed T))) (earliest : ℕ) : Type 0 where
  pub few : length places ≤ 256
  pub all : length places ≢ 0 → length places ≡ 256
  pub bound : (q : ℕ) (timed : Timed T) → get_or places q None ≡ Some timed → earliest ≤ timed.last

-- a session without its time
abbrev pub untimed_session : {T : Type 0} → Option (Timed T) → Option (Timed T)
untimed_session None = None
untimed_session (Some timed) = Some (record { last = 0; session = timed.session })

-- the numbers below n that pass a test, the least first, each paired with `what`
unfoldable pub each_below : {X : Type 0} → (ℕ → Bool) → X → ℕ → List (ℕ × X)
each_below passes what zero = []
each_below passes what (suc n) = each_below passes what n ++ (if passes n then (n, what) ∷ [] else [])

module _ {T : Type 0} where
  -- each session belongs to one of the 256 addresses
  pub record AreOfAddresses (sessions : ByAddress T) : Type 0 where
    pub none_above : (q : ℕ) → 256 ≤ q → finite.get sessions q ≡ None
    pub at_most : finite.len sessions ≤ 256

-- Over a protocol's timeout, the longest time that a session stays open without one of its frames:
module _ {T : Type 0} (timeout : ℕ) where
  -- there is a session, and more than the timeout has passed since its last frame
  abbrev pub is_overdue : ℕ → Option (Timed T) → Bool
  is_overdue now None = false
  is_overdue now (Some timed) = nat_lt timeout (now - timed.last)

  -- the session unless it is overdue
  abbrev pub alive : ℕ → Option (Timed T) → Option (Timed T)
  alive now current = if is_overdue now current then None else current

  -- the addresses of overdue sessions, the least first, each paired with `what`
  abbrev pub each_overdue : {X : Type 0} → ℕ → ByAddress T → X → List (ℕ × X)
  each_overdue now sessions what = each_below (λ q. is_overdue now (finite.get sessions q)) what 256

  -- some session is overdue
  abbrev pub SomeOverdue : ByAddress T → ℕ → Type 0
  SomeOverdue sessions now = (q : ℕ) × (is_overdue now (finite.get sessions q) ≡ true)

  -- the least address with an overdue session
  pub record IsFirstOverdue (sessions : ByAddress T) (now address : ℕ) : Type 0 where
    pub overdue : is_overdue now (finite.get sessions address) ≡ true
    pub least : (q : ℕ) → q < address → is_overdue now (finite.get sessions q) ≡ false

  -- the overdue session of the least address is removed
  pub record Expires (old new : ByAddress T) (now address : ℕ) (session : T) : Type 0 where
    pub small : address < 256
    pub last : ℕ
    pub found : finite.get old address ≡ Some (record { last = last; session = session })
    pub first : IsFirstOverdue old now address
    pub removed : new ≡ finite.remove old address

  -- no session is overdue, and all are unchanged
  pub record NoneExpires (old new : ByAddress T) (now : ℕ) : Type 0 where
    pub none : (q : ℕ) → is_overdue now (finite.get old q) ≡ false
    pub stay : new ≡ old

-- The first overdue session expires, and the others are still overdue afterwards.
pub record TheFirstExpires (T X : Type 0) : Type 0 where
  pub some : (timeout : ℕ) (old new : ByAddress T) (now address : ℕ) (session : T) (what : X) → Expires timeout old new now address session
      → each_overdue timeout now old what ≡ (address, what) ∷ each_overdue timeout now new what
  pub none : (timeout : ℕ) (old new : ByAddress T) (now : ℕ) (what : X) → NoneExpires timeout old new now → each_overdue timeout now old what ≡ []

-- After the removal of an address's session the address has none, the others are unchanged, and there is one fewer.
pub record IsRemoved {T : Type 0} (sessions : ByAddress T) (address : ℕ) : Type 0 where
  pub gone : finite.get (finite.remove sessions address) address ≡ None
  pub others : (other : ℕ) → (other ≡ address → ⊥) → finite.get (finite.remove sessions address) other ≡ finite.get sessions other
  pub fewer : (timed : Timed T) → finite.get sessions address ≡ Some timed → finite.len (finite.remove sessions address) + 1 ≡ finite.len sessions
