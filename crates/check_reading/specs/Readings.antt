-- The records of a pool's bytes, with reading going on behind a wrong scale, wrong decimals, and a type that this terminal leaves out
-- (docs/PROFILE.md, "Pools and faults", "All faults").
use Rattle.std.specs.Prelude.{◌≡◌, ◌<◌, ◌==◌, ℕ, ◌+◌, ◌-◌, Bool, true, false, if◌then◌else◌, List, [], ◌∷◌, ◌++◌, length, drop, map, reverse, slice_set, IsTrue, Option, Some, None}
use Rattle.std.specs.List.{AllByRecursion}
use Rattle.vt_kinds.specs.Ids.{null_id}
use Rattle.vt_kinds.specs.Records.{Seen, seen, kind_of, record_of, HasRecord}
use Rattle.vt_stores.specs.Stores.{Objects, by_rising_id}
use Rattle.vt_records.specs.declared.fault.PoolFault.{PoolFault}
use Rattle.vt_records.specs.declared.record_fault.RecordFault.{RecordFault}
use Rattle.vt_records.specs.declared.record_fault.RecordFault.TheVariants as stops
use Rattle.vt_records.specs.Faults.{id_at, type_at}
use Rattle.vt_records.specs.RecordFaults.{IsStop, fault_at}
use Rattle.check_reading.specs.declared.pool_reading.ObjectRecord.{ObjectRecord}
use Rattle.check_reading.specs.declared.pool_reading.PoolReading.{PoolReading}
use Rattle.check_reading.specs.declared.pool_reading.ReplacedRecord.{ReplacedRecord}
use Rattle.check_reading.specs.declared.passed.PassedRecord.{PassedRecord}
use Rattle.check_reading.specs.Passed.{passed_size}
use Rattle.check_reading.specs.declared.records.FoundRecord.{FoundRecord}
use Rattle.check_reading.specs.declared.records.Records.{Records}

-- bytes with others written over them from an index on
abbrev pub written : List ℕ → ℕ → List ℕ → List ℕ
written bytes at [] = bytes
written bytes at (b ∷ bs) = written (slice_set bytes at b) (at + 1) bs

-- the bytes of the scale 1
abbrev pub scale_one : List ℕ
scale_one = 0 ∷ 0 ∷ 128 ∷ 63 ∷ []

abbrev pub wants_memory : RecordFault → Bool
wants_memory stops.OutOfMemory = true
wants_memory fault = false

-- whether the length of a record with this fault is known
abbrev pub is_mendable : RecordFault → Bool
is_mendable (stops.Scale at) = true
is_mendable (stops.Decimals at) = true
is_mendable fault = false

-- the bytes of a record with the scale 1 in place of a wrong one, or 7 in place of wrong decimals
abbrev pub mended : RecordFault → List ℕ → List ℕ
mended (stops.Scale field) bytes = written bytes field scale_one
mended (stops.Decimals field) bytes = written bytes field (7 ∷ [])
mended fault bytes = bytes

-- the same for the record at an index of a pool's bytes
abbrev pub mended_at : ℕ → RecordFault → List ℕ → List ℕ
mended_at at (stops.Scale field) bytes = written bytes (at + field) scale_one
mended_at at (stops.Decimals field) bytes = written bytes (at + field) (7 ∷ [])
mended_at at fault bytes = bytes

-- Behind the fault no length is known. `left` wrong fields of the record may still be mended.
pub record EndsReading (left : ℕ) (bytes : List ℕ) (fault : RecordFault) : Type 0 where
  pub no_memory : wants_memory fault ≡ false
  pub not_mended : IsTrue (is_mendable fault) → left ≡ 0
  pub not_passed : passed_size fault bytes ≡ None

-- a step of the reading: a record; a fault that is mended; the fault of a record that is passed over, with its ID, its type and its
-- number of bytes; or a fault that ends the reading
pub data Step : Type 0 where
  Found : ℕ → Seen → Step
  Mended : RecordFault → Step
  Passed : RecordFault → ℕ → ℕ → ℕ → Step
  Ended : RecordFault → Step

-- the most wrong fields of one record that are mended: it has one scale and one number of decimals
abbrev pub most_mended : ℕ
most_mended = 2

-- The steps read these bytes to their end, or to a fault that ends the reading.
abbrev pub IsReading : ℕ → List ℕ → List Step → Type 0
IsReading left bytes [] = bytes ≡ []
IsReading left bytes (Found id o ∷ steps) =
    HasRecord id o × ((rest : List ℕ) × (bytes ≡ record_of id o ++ rest) × IsReading most_mended rest steps)
IsReading left bytes (Mended fault ∷ steps) =
    (0 < left) × IsTrue (is_mendable fault) × IsStop bytes fault × IsReading (left - 1) (mended fault bytes) steps
IsReading left bytes (Passed fault id number size ∷ steps) =
    IsStop bytes fault × (passed_size fault bytes ≡ Some size) × (id ≡ id_at bytes) × (number ≡ type_at bytes)
    × IsReading most_mended (drop size bytes) steps
IsReading left bytes (Ended fault ∷ steps) = (0 < length bytes) × IsStop bytes fault × EndsReading left bytes fault × (steps ≡ [])

-- ---- what the steps come to, for bytes that begin at an index of the pool

-- a record and the index of its first byte
pub record FoundAt : Type 0 where
  pub id : ℕ
  pub at : ℕ
  pub object : Seen

abbrev pub found_from : ℕ → List Step → List FoundAt
found_from at [] = []
found_from at (Found id o ∷ steps) = record { id = id; at = at; object = o } ∷ found_from (at + length (record_of id o)) steps
found_from at (Mended fault ∷ steps) = found_from at steps
found_from at (Passed fault id number size ∷ steps) = found_from (at + size) steps
found_from at (Ended fault ∷ steps) = []

abbrev pub faults_from : ℕ → List Step → List PoolFault
faults_from at [] = []
faults_from at (Found id o ∷ steps) = faults_from (at + length (record_of id o)) steps
faults_from at (Mended fault ∷ steps) = fault_at fault at ∷ faults_from at steps
faults_from at (Passed fault id number size ∷ steps) = fault_at fault at ∷ faults_from (at + size) steps
faults_from at (Ended fault ∷ steps) = fault_at fault at ∷ []

-- the records that are passed over
abbrev pub passed_from : ℕ → List Step → List PassedRecord
passed_from at [] = []
passed_from at (Found id o ∷ steps) = passed_from (at + length (record_of id o)) steps
passed_from at (Mended fault ∷ steps) = passed_from at steps
passed_from at (Passed fault id number size ∷ steps) = record { id = id; number = number; at = at } ∷ passed_from (at + size) steps
passed_from at (Ended fault ∷ steps) = []

-- the index of the first byte that was not read
abbrev pub unread_from : ℕ → List Step → Option ℕ
unread_from at [] = None
unread_from at (Found id o ∷ steps) = unread_from (at + length (record_of id o)) steps
unread_from at (Mended fault ∷ steps) = unread_from at steps
unread_from at (Passed fault id number size ∷ steps) = unread_from (at + size) steps
unread_from at (Ended fault ∷ steps) = Some at

abbrev pub found_at : FoundRecord → FoundAt
found_at r = record { id = r.id; at = r.at; object = seen r.object }

-- the records and faults of a reading of these bytes
pub record AreRead (bytes : List ℕ) (records : Records) : Type 0 where
  pub steps : List Step
  pub reading : IsReading most_mended bytes steps
  pub found : map found_at records.found.items ≡ found_from 0 steps
  pub faults : records.faults.items ≡ faults_from 0 steps
  pub passed : records.passed.items ≡ passed_from 0 steps
  pub unread : records.unread ≡ unread_from 0 steps

-- ---- the objects in force

abbrev pub entry_of : FoundAt → ℕ × Seen
entry_of f = (f.id, f.object)

-- the objects in force: the last record of an ID counts
abbrev pub objects_of : List FoundAt → Objects
objects_of found = by_rising_id (map entry_of (reverse found))

-- the index of the last record of an ID
abbrev pub later_or : Option ℕ → Bool → ℕ → Option ℕ
later_or (Some at) same first = Some at
later_or None same first = if same then Some first else None

abbrev pub last_at : ℕ → List FoundAt → Option ℕ
last_at id [] = None
last_at id (f ∷ found) = later_or (last_at id found) (id == f.id) f.at

abbrev pub or_zero : Option ℕ → ℕ
or_zero None = 0
or_zero (Some n) = n

-- the record of an object, by the index of each ID's record
abbrev pub record_by : (ℕ → Option ℕ) → ℕ × Seen → ObjectRecord
record_by place e = record { id = e.0; kind = kind_of e.1; at = or_zero (place e.0) }

-- the record of an object in force
abbrev pub record_in : List FoundAt → ℕ × Seen → ObjectRecord
record_in found e = record_by (λ id. last_at id found) e

-- no ID is NULL
abbrev pub NamesObjects : List FoundAt → Type 0
NamesObjects found = AllByRecursion (λ f. f.id < null_id) found

-- a record, if a later one of its ID is at `last`
abbrev pub replaced_by : FoundAt → Option ℕ → List ReplacedRecord
replaced_by f None = []
replaced_by f (Some last) = record { id = f.id; kind = kind_of f.object; at = f.at; by = last } ∷ []

-- the records that a later one of the same ID replaces
abbrev pub replaced_in : List FoundAt → List ReplacedRecord
replaced_in [] = []
replaced_in (f ∷ found) = replaced_by f (last_at f.id found) ++ replaced_in found

-- ---- the whole reading

-- The records, the objects in force and the faults of a reading of the bytes.
pub record IsPoolReading (bytes : List ℕ) (r : PoolReading) : Type 0 where
  pub steps : List Step
  pub reading : IsReading most_mended bytes steps
  pub objects : r.objects ≡ objects_of (found_from 0 steps)
  pub records : r.records.items ≡ map (record_in (found_from 0 steps)) r.objects
  pub replaced : r.replaced.items ≡ replaced_in (found_from 0 steps)
  pub faults : r.faults.items ≡ faults_from 0 steps
  pub passed : r.passed.items ≡ passed_from 0 steps
  pub unread : r.unread ≡ unread_from 0 steps
