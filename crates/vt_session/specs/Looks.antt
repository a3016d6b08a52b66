-- Whether the picture of a terminal may have changed (docs/EMBEDDING.md, "When to paint").
use Rattle.std.specs.Option.{option_map}
use Rattle.std.specs.Prelude.{◌≡◌, ◌≢◌, ◌⊎◌, ℕ, ◌+◌, ◌%◌, ◌^◌, true, Option, is_some, IfSome}
use Rattle.vt_stores.specs.Stores.{ObjectMap}
use Rattle.vt_server.specs.Terminals.{State, pool_at, pool_of}

-- the objects of the shown set
abbrev pub objects_shown : State → Option ObjectMap
objects_shown s = option_map (λ set. set.objects) (pool_at s s.shown)

-- The same set is shown, with the same objects, at the same sizes.
pub record KeepsPicture (old new : State) : Type 0 where
  pub shown : new.shown ≡ old.shown
  pub profile : new.profile ≡ old.profile
  pub objects : objects_shown new ≡ objects_shown old

-- the next number of a count in 64 bits
abbrev pub next_look : ℕ → ℕ
next_look n = (n + 1) % 2 ^ 64

-- The count of looks stays, and then something holds, or it goes on by one.
abbrev pub LooksOn : ℕ → ℕ → Type 0 → Type 0
LooksOn old new Holds = ((new ≡ old) × Holds) ⊎ (new ≡ next_look old)

-- The set that was shown is still shown, has a pool, and is not at the address of a source.
pub record IsUntouched (was : Option ℕ) (s : State) (source : ℕ) : Type 0 where
  pub shown : s.shown ≡ was
  pub pool : IfSome was (λ address. is_some (pool_of s address) ≡ true)
  pub other : IfSome was (λ address. address ≢ source)
