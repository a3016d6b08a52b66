-- The times of the last frames of addresses, as a value (docs/PROFILE.md, "Silence").
use Rattle.std.specs.Prelude.{◌≡◌, ℕ, ◌-◌, Bool, true, false, is_some, nat_lt, if◌then◌else◌, List, [], ◌∷◌, Option, Some, None, get_or, refl}
use Rattle.std.specs.Coded.{Coded, code_by, coded×, coded_list, coded_bool, coded_ℕ}
use Rattle.vt_names.specs.Registry.{Set}

-- the time of the last frame of each address, and whether it waits for the time of the next frame line
pub record Times : Type 0 where
  pub last : List ℕ
  pub awaited : List Bool

abbrev pub times_code : Coded Times
times_code =
    code_by (List ℕ × List Bool) (coded× (coded_list coded_ℕ) (coded_list coded_bool))
    (λ t. (t.last, t.awaited)) (λ p. record { last = p.0; awaited = p.1 }) (λ _. refl)

abbrev pub heard_in : List ℕ → List Bool → ℕ → Option ℕ
heard_in last awaited address = if get_or awaited address false then None else Some (get_or last address 0)

abbrev pub heard_of : Times → ℕ → Option ℕ
heard_of times address = heard_in times.last times.awaited address

-- ---- silence

-- more than 3,000,000 microseconds without a frame
abbrev pub is_silent : ℕ → Option ℕ → Bool
is_silent now None = false
is_silent now (Some last) = nat_lt 3000000 (now - last)

-- the address of the first silent set, by the times of last frames
abbrev pub first_silent_of : ℕ → (ℕ → Option ℕ) → List Set → Option ℕ
first_silent_of now heard [] = None
first_silent_of now heard (set ∷ sets) = if is_silent now (heard set.address) then Some set.address else first_silent_of now heard sets

-- some set is silent
abbrev pub SomeSilent : (ℕ → Option ℕ) → List Set → ℕ → Type 0
SomeSilent heard sets now = is_some (first_silent_of now heard sets) ≡ true

-- some address has no time yet
abbrev pub SomeAwaited : (ℕ → Option ℕ) → Type 0
SomeAwaited heard = (address : ℕ) × (heard address ≡ None)
