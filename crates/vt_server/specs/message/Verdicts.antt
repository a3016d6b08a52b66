-- The end of an upload: its right verdicts, its effect and its reply (docs/PROFILE.md, "End of Object Pool (12)", "Updates of a
-- pool").
use Rattle.std.specs.Prelude.{◌≡◌, ℕ, List, [], ◌∷◌, ◌++◌, slice_index, Option, Some, None}
use Rattle.byteorder.specs.Endian.{little_bytes}
use Rattle.vt_can.specs.Assigned.{END_OF_POOL}
use Rattle.vt_kinds.specs.Ids.{null_id}
use Rattle.vt_stores.specs.Stores.{ObjectMap, Objects, by_rising_id, map_of}
use Rattle.vt_records.specs.declared.fault.PoolFault.{PoolFault}
use Rattle.vt_records.specs.declared.fault.PoolFault.TheVariants as faults
use Rattle.vt_pool.specs.Pools as pools
use Rattle.vt_pool.specs.Pools.{PoolEntry, AreRecords, IsFault, IsInForce, joined}
use Rattle.vt_verify.specs.declared.refusal.Refusal.{Refusal}
use Rattle.vt_verify.specs.declared.refusal.Refusal.TheVariants as refusals
use Rattle.vt_verify.specs.Rules as rules
use Rattle.vt_verify.specs.Rules.{IsVerified, IsRefused}
use Rattle.vt_chains.specs.Limits.{terminal}
use Rattle.vt_verify.specs.Updates.{updated}
use Rattle.vt_machine.specs.SetStates.{SetState, fresh_set, renewed}
use Rattle.vt_server.specs.state.AddressStates.{SetPool}

-- the verdict on an upload: the new objects of the set, or the fault or refusal that leaves its pool unchanged
pub data Verdict : Type 0 where
  Accepts : (objects : ObjectMap) → Verdict
  Faulty : (fault : PoolFault) → Verdict
  Refuses : (refusal : Refusal) → Verdict

-- ---- right verdicts

-- The bytes are whole records, and these are the records in force.
pub record IsPool (bytes : List ℕ) (pool : List PoolEntry) : Type 0 where
  pub records : List PoolEntry
  pub whole : AreRecords records
  pub spelled : bytes ≡ joined records
  pub in_force : IsInForce records pool

-- the objects to verify: those of the upload, and for an update also those of the store under other IDs
abbrev pub merged : Option SetState → List PoolEntry → Objects
merged None pool = by_rising_id pool
merged (Some state) pool = updated state.objects pool

pub record IsAccepted (content : SetPool) (objects : ObjectMap) : Type 0 where
  pub pool : List PoolEntry
  pub read : IsPool content.transfer pool
  pub verified : IsVerified (merged content.pool pool)
  pub objects_are : objects ≡ map_of (merged content.pool pool)

-- Want of memory is neither a fault nor a refusal.
pub record IsFaulty (content : SetPool) (fault : PoolFault) : Type 0 where
  pub faulty : IsFault content.transfer fault
  pub named : pools.IsWantOfMemory fault → ⊥

pub record IsRefusedBy (content : SetPool) (refusal : Refusal) : Type 0 where
  pub pool : List PoolEntry
  pub read : IsPool content.transfer pool
  pub refused : IsRefused terminal (merged content.pool pool) refusal
  pub named : rules.IsWantOfMemory refusal → ⊥

abbrev pub IsVerdict : SetPool → Verdict → Type 0
IsVerdict content (Accepts objects) = IsAccepted content objects
IsVerdict content (Faulty fault) = IsFaulty content fault
IsVerdict content (Refuses refusal) = IsRefusedBy content refusal

-- ---- the effect of a verdict

-- The first pool of a set is new. An update keeps the held key and the selected input if their objects keep their kind.
abbrev pub with_objects_of : Option SetState → ObjectMap → SetState
with_objects_of None objects = fresh_set objects
with_objects_of (Some state) objects = renewed state objects

-- The upload of a set is empty after its verdict.
abbrev pub after_verdict : SetPool → Verdict → SetPool
after_verdict content (Accepts objects) = record { pool = Some (with_objects_of content.pool objects); transfer = [] }
after_verdict content (Faulty fault) = record content { transfer = [] }
after_verdict content (Refuses refusal) = record content { transfer = [] }

-- ---- the reply

-- the reply to End of Object Pool: the error, the IDs of a parent and its object, and the code of the cause
abbrev pub end_of_pool : ℕ → ℕ → ℕ → ℕ → List ℕ
end_of_pool error parent object code = (END_OF_POOL ∷ error ∷ little_bytes 2 parent) ++ little_bytes 2 object ++ code ∷ 0xFF ∷ []

abbrev pub refused_pool : ℕ → ℕ → ℕ → List ℕ
refused_pool parent object code = end_of_pool 1 parent object code

-- the code of a fault: 1 for a type that the terminal lacks, 4 for any other fault
abbrev pub fault_code : PoolFault → ℕ
fault_code (faults.UnknownType at) = 1
fault_code (faults.LeftOutType at) = 1
fault_code (faults.Truncated at) = 4
fault_code (faults.Scale at) = 4
fault_code (faults.Decimals at) = 4
fault_code (faults.OutOfMemory at) = 4
fault_code (faults.NullId at) = 4

abbrev pub refusal_reply : Refusal → List ℕ
refusal_reply refusals.NoWorkingSet = refused_pool null_id null_id 4
refusal_reply refusals.TwoWorkingSets = refused_pool null_id null_id 4
refusal_reply (refusals.Missing parent id) = refused_pool parent id 2
refusal_reply (refusals.WrongKind parent id) = refused_pool parent id 4
refusal_reply (refusals.TooDeep chain) = refused_pool null_id null_id 4
refusal_reply (refusals.MacroBytes id) = refused_pool null_id id 4
refusal_reply (refusals.MacroCommand id at) = refused_pool null_id id 4
refusal_reply (refusals.MacroMissing parent id) = refused_pool parent id 2
refusal_reply (refusals.MacroKind parent id) = refused_pool parent id 4
refusal_reply (refusals.MacroValue id at) = refused_pool null_id id 4
refusal_reply (refusals.MacroCircle path) = refused_pool null_id (slice_index path.items 0) 4
refusal_reply (refusals.OverBudget id) = refused_pool null_id id 4
refusal_reply refusals.OutOfMemory = refused_pool null_id null_id 4

abbrev pub end_reply : Verdict → List ℕ
end_reply (Accepts objects) = end_of_pool 0 null_id null_id 0
end_reply (Faulty fault) = refused_pool null_id null_id (fault_code fault)
end_reply (Refuses refusal) = refusal_reply refusal
