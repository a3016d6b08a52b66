-- The judgement of a pool's bytes (docs/PROFILE.md, "Pools and faults", "Verification of a pool").
use Rattle.std.specs.Prelude.{◌≡◌, ℕ, Bool, true, false, List}
use Rattle.vt_stores.specs.Stores.{Objects, by_rising_id}
use Rattle.vt_chains.specs.Limits.{terminal}
use Rattle.vt_pool.specs.Pools.{PoolEntry, AreRecords, IsFault, IsInForce, joined}
use Rattle.vt_records.specs.declared.fault.PoolFault.TheVariants as faults
use Rattle.vt_verify.specs.Rules.{IsAcceptable, IsRefused, IsVerified}
use Rattle.vt_verify.specs.declared.refusal.Refusal.{Refusal}
use Rattle.vt_verify.specs.declared.refusal.Refusal.TheVariants as refusals
use Rattle.vt_judge.specs.declared.NotAccepted.{NotAccepted}
use Rattle.vt_judge.specs.declared.NotAccepted.TheVariants.{Fault, Refused}

-- The bytes are whole records, and these are the objects in force after them, by rising ID.
pub record IsPool (bytes : List ℕ) (objects : Objects) : Type 0 where
  pub records : List PoolEntry
  pub whole : AreRecords records
  pub spelled : bytes ≡ joined records
  pub pool : List PoolEntry
  pub in_force : IsInForce records pool
  pub rising : objects ≡ by_rising_id pool

-- The bytes are a pool that meets all rules, and these are its objects.
pub record IsAcceptedPool (bytes : List ℕ) (accepted : Objects) : Type 0 where
  pub pool : IsPool bytes accepted
  pub acceptable : IsAcceptable terminal accepted
  pub verified : IsVerified accepted

-- The bytes are a pool that breaks a rule, by this refusal.
pub record IsRefusedPool (bytes : List ℕ) (why : Refusal) : Type 0 where
  pub objects : Objects
  pub pool : IsPool bytes objects
  pub refused : IsRefused terminal objects why

-- The first faulty record has this fault, or the objects break a rule.
abbrev pub IsNotAccepted : List ℕ → NotAccepted → Type 0
IsNotAccepted bytes (Fault fault) = IsFault bytes fault
IsNotAccepted bytes (Refused why) = IsRefusedPool bytes why

-- whether memory was refused
abbrev pub wants_memory : NotAccepted → Bool
wants_memory (Fault (faults.OutOfMemory at)) = true
wants_memory (Refused refusals.OutOfMemory) = true
wants_memory _ = false
