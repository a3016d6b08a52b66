-- The first time at which something is so (docs/PROFILE.md, "Timeouts").
use Rattle.std.specs.Prelude.{ℕ, ◌<◌, ◌^◌, min, Option, Some, None}

-- The first time of 64 bits at which P holds, or none if it holds at none.
abbrev pub IsFirstTime : (ℕ → Type 0) → Option ℕ → Type 0
IsFirstTime P None = (now : ℕ) → now < 2 ^ 64 → P now → ⊥
IsFirstTime P (Some time) = (time < 2 ^ 64) × (P time × ((now : ℕ) → now < time → P now → ⊥))

-- the earlier of two times, if there are any
abbrev pub earlier : Option ℕ → Option ℕ → Option ℕ
earlier None b = b
earlier (Some a) None = Some a
earlier (Some a) (Some b) = Some (min a b)
