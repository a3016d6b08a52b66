-- The certificate that no chain of inclusions is too long: a level for each object that falls with each inclusion
-- (docs/PROFILE.md, "Inclusions and chains").
use Rattle.std.specs.Prelude.{◌≡◌, ◌≤◌, ◌⊎◌, ℕ, List, length, slice_index, Contains}
use Rattle.vt_stores.specs.Stores.{ObjectMap}
use Rattle.vt_chains.specs.Depths.{ids_of, inclusions_of, IsIdAt, IsBelow, IsClosed}
use Rattle.vt_chains.specs.Inclusions.{IsShallow}
use Rattle.vt_chains.specs.Limits.{terminal}
use Rattle.vt_chains.specs.declared.levels.Levels.{Levels}

-- Each included object exists at a lower level, and no level is above the limit of inclusions in a chain.
pub record IsCertificate (ids : List ℕ) (included : ℕ → List ℕ) (levels : List ℕ) : Type 0 where
  pub each : length levels ≡ length ids
  pub within : (index : ℕ) → slice_index levels index ≤ terminal.inclusions
  pub falls : (index id : ℕ) → IsIdAt ids index id → (other : ℕ) → Contains (included id) other → IsBelow ids levels other (slice_index levels index)

-- a certificate except that the level may not fall with one inclusion
pub record IsCertificateBut (ids : List ℕ) (included : ℕ → List ℕ) (levels : List ℕ) (from to : ℕ) : Type 0 where
  pub each : length levels ≡ length ids
  pub within : (index : ℕ) → slice_index levels index ≤ terminal.inclusions
  pub falls : (index id : ℕ) → IsIdAt ids index id → (other : ℕ) → Contains (included id) other
      → IsBelow ids levels other (slice_index levels index) ⊎ ((id ≡ from) × (other ≡ to))
  pub closed : IsClosed ids included

-- a chain has more inclusions than the limit of this terminal
abbrev pub HasLongChain : ObjectMap → Type 0
HasLongChain store = IsShallow terminal.inclusions (inclusions_of store) → ⊥

-- the levels of a store, with a spare buffer of the same length
pub record AreLevels (store : ObjectMap) (levels : Levels) : Type 0 where
  pub certificate : IsCertificate (ids_of store) (inclusions_of store) levels.levels.items
  pub spare_length : length levels.spare.items ≡ length (ids_of store)

-- the levels of a store, except that they may not fall with one inclusion
pub record AreLevelsBut (store : ObjectMap) (levels : Levels) (from to : ℕ) : Type 0 where
  pub certificate : IsCertificateBut (ids_of store) (inclusions_of store) levels.levels.items from to
  pub spare_length : length levels.spare.items ≡ length (ids_of store)

-- the levels and the length of the spare buffer are unchanged
pub record HasSameLevels (old new : Levels) : Type 0 where
  pub levels : new.levels.items ≡ old.levels.items
  pub spare_length : length new.spare.items ≡ length old.spare.items
