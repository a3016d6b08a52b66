-- The fault of a pool's bytes is unique (docs/PROFILE.md, "Pools and faults").
use Rattle.std.specs.Prelude.{◌≡◌, ℕ, List}
use Rattle.vt_records.specs.declared.fault.PoolFault.{PoolFault}
use Rattle.vt_pool.specs.Pools.{IsFault, IsWantOfMemory}

-- Two faults of the same bytes have the same kind and offset, except for want of memory.
abbrev pub FaultsAreOne : Type 0
FaultsAreOne = (bytes : List ℕ) (fault other : PoolFault) → IsFault bytes fault → IsFault bytes other → (IsWantOfMemory fault → ⊥)
    → (IsWantOfMemory other → ⊥) → fault ≡ other
