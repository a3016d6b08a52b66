-- A store after an update (docs/PROFILE.md, "Updates of a pool").
use Rattle.std.specs.Prelude.{◌≡◌, ℕ, [], ◌∷◌, ◌++◌, Option, Some, None}
use Rattle.std.specs.FinMap as finite
use Rattle.vt_kinds.specs.Records.{Seen}
use Rattle.vt_stores.specs.Stores.{Objects, ObjectMap, object_at, by_rising_id}

-- the objects of an update, and the other objects of the store
abbrev pub updated : ObjectMap → Objects → Objects
updated store update = by_rising_id (update ++ finite.entries store)

abbrev pub or_else : {A : Type 0} → Option A → Option A → Option A
or_else (Some x) other = Some x
or_else None other = other

-- the entries with one more, unless the update has an object with its ID
abbrev pub unless : Option Seen → Objects → ℕ → Seen → Objects
unless (Some other) entries id object = entries
unless None entries id object = entries ++ (id, object) ∷ []

-- The object of each ID is the update's, or else the store's.
abbrev pub UpdatesReplace : Type 0
UpdatesReplace = (store : ObjectMap) (update : Objects) (id : ℕ) → object_at (updated store update) id ≡ or_else (object_at update id) (finite.get store id)
