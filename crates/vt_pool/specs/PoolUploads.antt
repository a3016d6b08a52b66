-- A pool upload, read while its pieces arrive (docs/PROFILE.md, "Object Pool Transfer (11)").
use Rattle.std.specs.Prelude.{◌≡◌, ◌⊎◌, ℕ, List, [], ◌++◌, length, drop, Option, Some, None, refl}
use Rattle.std.specs.Coded.{Coded, code_by, coded×, coded_ℕ, coded_list}
use Rattle.vt_records.specs.declared.fault.PoolFault.{PoolFault}
use Rattle.vt_records.specs.declared.fault.PoolFault.TheVariants.{Truncated, OutOfMemory}
use Rattle.vt_pool.specs.Pools.{PoolEntry, AreRecords, joined, IsFault}
use Rattle.vt_records.specs.Faults.{IsTruncated}

-- the bytes so far, and the spare capacity for more bytes without an allocation
pub record Arrived : Type 0 where
  pub bytes : List ℕ
  pub spare : ℕ

abbrev pub arrived_code : Coded Arrived
arrived_code =
    code_by (List ℕ × ℕ) (coded× (coded_list coded_ℕ) coded_ℕ)
    (λ a. (a.bytes, a.spare)) (λ p. record { bytes = p.0; spare = p.1 }) (λ _. refl)

-- a lasting fault: more bytes or more memory do not cure it
abbrev pub IsLasting : PoolFault → Type 0
IsLasting (Truncated at) = ⊥
IsLasting (OutOfMemory at) = ⊥
IsLasting _ = Unit {0}

abbrev pub lasting_of : PoolFault → Option PoolFault
lasting_of (Truncated at) = None
lasting_of (OutOfMemory at) = None
lasting_of fault = Some fault

-- A lasting fault of a pool's first bytes is also a fault of the whole pool.
abbrev pub FaultsLast : Type 0
FaultsLast = (bytes more : List ℕ) (fault : PoolFault) → IsFault bytes fault → IsLasting fault → IsFault (bytes ++ more) fault

-- The bytes have no lasting fault.
abbrev pub HasNoFaultYet : List ℕ → Type 0
HasNoFaultYet bytes = (fault : PoolFault) → IsFault bytes fault → IsLasting fault → ⊥

-- Whole records end at a position.
pub record AreWholeTo (bytes : List ℕ) (place : ℕ) : Type 0 where
  pub records : List PoolEntry
  pub whole : AreRecords records
  pub parts : bytes ≡ joined records ++ drop place bytes
  pub place_is : place ≡ length (joined records)

-- The bytes are empty or end inside one record.
abbrev pub IsUnfinished : List ℕ → Type 0
IsUnfinished rest = (rest ≡ []) ⊎ IsTruncated rest

-- The bytes have whole records up to a position and an unfinished record after it, or a lasting fault.
abbrev pub IsReadTo : List ℕ → ℕ → Option PoolFault → Type 0
IsReadTo bytes place None = AreWholeTo bytes place × IsUnfinished (drop place bytes)
IsReadTo bytes place (Some fault) = IsFault bytes fault × IsLasting fault

-- The bytes without their last ones were read up to a position, or to a lasting fault.
pub record WereReadTo (bytes : List ℕ) (place : ℕ) (fault : Option PoolFault) : Type 0 where
  pub before : List ℕ
  pub more : List ℕ
  pub parts : bytes ≡ before ++ more
  pub read : IsReadTo before place fault
