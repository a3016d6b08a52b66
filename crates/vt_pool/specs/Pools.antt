-- A pool: joined records, and the objects in force after them (docs/PROFILE.md, "Pools and faults").
use Rattle.std.specs.Prelude.{◌≡◌, ◌<◌, ◌==◌, Bool, true, false, not, eqb, ℕ, ◌+◌, List, [], ◌∷◌, ◌++◌, length, map, filter, reverse}
use Rattle.std.specs.List.{flat_map, AllByRecursion, IsDistinct}
use Rattle.vt_kinds.specs.Layout.{ScaleBytes, DecimalPlaces}
use Rattle.vt_kinds.specs.Records.{Seen, record_of, HasRecord}
use Rattle.std.specs.FinMap as finite
use Rattle.vt_stores.specs.Stores.{ObjectMap}
use Rattle.vt_records.specs.Faults.{IsLeftOut, HasNullId, HasOtherType, IsTruncated, IsImproper, type_at}
use Rattle.vt_records.specs.declared.fault.PoolFault.{PoolFault}
use Rattle.vt_records.specs.declared.fault.PoolFault.TheVariants.{Truncated, UnknownType, LeftOutType, Scale, Decimals, OutOfMemory, NullId}

-- an object with its ID
abbrev pub PoolEntry : Type 0
PoolEntry = ℕ × Seen

-- ---- joined records

abbrev pub joined : List PoolEntry → List ℕ
joined records = flat_map (λ r. record_of r.0 r.1) records

-- each object has a record under its ID
abbrev pub AreRecords : List PoolEntry → Type 0
AreRecords records = AllByRecursion (λ r. HasRecord r.0 r.1) records

-- the IDs in the order of their first occurrence
abbrev pub first_occurrences : List ℕ → List ℕ
first_occurrences [] = []
first_occurrences (id ∷ ids) = id ∷ filter (λ other. not (id == other)) (first_occurrences ids)

abbrev pub ids : List PoolEntry → List ℕ
ids entries = map (λ e. e.0) entries

-- the map of the entries; the first one counts for a repeated ID
abbrev pub contents : List PoolEntry → ObjectMap
contents entries = finite.from_entries entries

-- The objects in force after records: each ID once, in the order of first occurrence, with the object of its last record.
pub record IsInForce (records objects : List PoolEntry) : Type 0 where
  pub order : ids objects ≡ first_occurrences (ids records)
  pub last : contents objects ≡ contents (reverse records)

-- The objects of a pool: IDs are unique, and each object has a record.
pub record AreObjects (objects : List PoolEntry) : Type 0 where
  pub distinct : IsDistinct eqb (ids objects)
  pub whole : AreRecords objects

-- ---- faults of a pool

-- The bytes are whole records and then a faulty one; the fault is at an offset from the faulty record's first
-- byte.
pub record IsFaultAt (bytes : List ℕ) (at : ℕ) (IsFaulty : List ℕ → ℕ → Type 0) : Type 0 where
  pub records : List PoolEntry
  pub whole : AreRecords records
  pub rest : List ℕ
  pub parts : bytes ≡ joined records ++ rest
  pub offset : ℕ
  pub place : at ≡ length (joined records) + offset
  pub some : 0 < length rest
  pub faulty : IsFaulty rest offset

-- a fault at the record's first byte
abbrev pub AtFirst : (List ℕ → Type 0) → List ℕ → ℕ → Type 0
AtFirst IsFaulty rest offset = (offset ≡ 0) × IsFaulty rest

-- The meaning of a fault: the first faulty record has this cause first. OutOfMemory may occur at any record.
abbrev pub IsFault : List ℕ → PoolFault → Type 0
IsFault bytes (Truncated at) = IsFaultAt bytes at (AtFirst IsTruncated)
IsFault bytes (NullId at) = IsFaultAt bytes at (AtFirst HasNullId)
IsFault bytes (LeftOutType at) = IsFaultAt bytes at (AtFirst (λ rest. HasOtherType rest × IsLeftOut (type_at rest)))
IsFault bytes (UnknownType at) = IsFaultAt bytes at (AtFirst (λ rest. HasOtherType rest × (IsLeftOut (type_at rest) → ⊥)))
IsFault bytes (Scale at) = IsFaultAt bytes at (IsImproper ScaleBytes)
IsFault bytes (Decimals at) = IsFaultAt bytes at (IsImproper DecimalPlaces)
IsFault bytes (OutOfMemory at) = IsFaultAt bytes at (AtFirst (λ rest. Unit {0}))

-- OutOfMemory, the only fault of a pool of whole records
abbrev pub IsWantOfMemory : PoolFault → Type 0
IsWantOfMemory (OutOfMemory at) = Unit {0}
IsWantOfMemory _ = ⊥

-- Records with distinct IDs are read back as the same objects in the same order, for every split of their bytes into
-- records.
abbrev pub WrittenIsRead : Type 0
WrittenIsRead = (written records objects : List PoolEntry) → AreObjects written → AreRecords records → joined written ≡ joined records → IsInForce records objects
    → objects ≡ written

-- the fault is a type that this terminal does not have
abbrev pub is_of_type : PoolFault → Bool
is_of_type (UnknownType at) = true
is_of_type (LeftOutType at) = true
is_of_type fault = false

-- A pool's bytes have at most one reading: the objects in force are unique, whole records have no fault but
-- OutOfMemory, and either all other faults are type faults or none is.
pub record ReadingsAreOne : Type 0 where
  pub pools : (records others p q : List PoolEntry) → AreRecords records → AreRecords others → joined records ≡ joined others
      → IsInForce records p → IsInForce others q → p ≡ q
  pub faults : (bytes : List ℕ) (records : List PoolEntry) (fault : PoolFault) → AreRecords records → bytes ≡ joined records → IsFault bytes fault → IsWantOfMemory fault
  pub types : (bytes : List ℕ) (f g : PoolFault) → IsFault bytes f → IsFault bytes g → (IsWantOfMemory f → ⊥) → (IsWantOfMemory g → ⊥)
      → is_of_type f ≡ is_of_type g
