-- The sets with the times of their last frames, as a value (docs/PROFILE.md, "Silence").
use Rattle.std.specs.Prelude.{ℕ, ◌≤◌, min, List, [], ◌∷◌, Option, Some, None, refl}
use Rattle.std.specs.Coded.{Coded, code_by, coded×, coded_list, coded_ℕ}
use Rattle.vt_names.specs.Registry.{Set, set_code}
use Rattle.vt_node.specs.Watches.{Times, times_code}

-- the sets in order, the capacity reserved for one more (1 or 0), and the time of the last frame of each address
pub record Watched : Type 0 where
  pub sets : List Set
  pub capacity : ℕ
  pub watch : Times

abbrev pub watched_code : Coded Watched
watched_code =
    code_by (List Set × (ℕ × Times)) (coded× (coded_list set_code) (coded× coded_ℕ times_code))
    (λ w. (w.sets, (w.capacity, w.watch))) (λ p. record { sets = p.0; capacity = p.1.0; watch = p.1.1 }) (λ _. refl)

-- The time of an address is absent, or not before `earliest`.
abbrev pub IsHeardSince : ℕ → Option ℕ → Type 0
IsHeardSince earliest None = Unit {0}
IsHeardSince earliest (Some last) = earliest ≤ last

-- The time of each set's address is absent, or not before `earliest`.
abbrev pub AreHeardSince : ℕ → (ℕ → Option ℕ) → List Set → Type 0
AreHeardSince earliest heard [] = Unit {0}
AreHeardSince earliest heard (set ∷ sets) = IsHeardSince earliest (heard set.address) × AreHeardSince earliest heard sets

-- the earlier of two times, the second of which may be absent
abbrev pub sooner : ℕ → Option ℕ → ℕ
sooner earliest None = earliest
sooner earliest (Some last) = min earliest last
