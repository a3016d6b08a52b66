-- The verdict on an object pool (docs/EMBEDDING.md, "Verdicts").
use Rattle.std.specs.Prelude.{◌≡◌, ◌⊎◌, ℕ, List, length}
use Rattle.vt_stores.specs.Stores.{Objects}
use Rattle.vt_records.specs.declared.fault.PoolFault.{PoolFault}
use Rattle.vt_records.specs.declared.fault.PoolFault.TheVariants as faults
use Rattle.vt_verify.specs.declared.refusal.Refusal.{Refusal}
use Rattle.vt_verify.specs.declared.refusal.Refusal.TheVariants as refusals
use Rattle.vt_judge.specs.declared.NotAccepted.{NotAccepted}
use Rattle.vt_judge.specs.declared.NotAccepted.TheVariants as why
use Rattle.vt_judge.specs.Judgements.{IsAcceptedPool, IsNotAccepted}
use Rattle.check_verdicts.specs.declared.verdict.VtVerdict.{VtVerdict}

-- no object
abbrev pub NO_OBJECT : ℕ
NO_OBJECT = 65535

-- the verdict on an accepted pool of so many objects
abbrev pub accepted_verdict : ℕ → VtVerdict
accepted_verdict objects = record { kind = 0; number = 0; at = 0; object = NO_OBJECT; other = NO_OBJECT; objects = objects }

-- a verdict that names no object
abbrev pub placed : ℕ → ℕ → ℕ → VtVerdict
placed kind number at = record { kind = kind; number = number; at = at; object = NO_OBJECT; other = NO_OBJECT; objects = 0 }

-- a refusal that names an object, and perhaps another
abbrev pub naming : ℕ → ℕ → ℕ → ℕ → VtVerdict
naming number at object other = record { kind = 2; number = number; at = at; object = object; other = other; objects = 0 }

-- Memory was refused.
abbrev pub no_memory : VtVerdict
no_memory = placed 3 0 0

-- the verdict on a faulty record, by the number of the fault
abbrev pub fault_verdict : PoolFault → VtVerdict
fault_verdict (faults.Truncated at) = placed 1 1 at
fault_verdict (faults.UnknownType at) = placed 1 2 at
fault_verdict (faults.LeftOutType at) = placed 1 3 at
fault_verdict (faults.Scale at) = placed 1 4 at
fault_verdict (faults.Decimals at) = placed 1 5 at
fault_verdict (faults.OutOfMemory at) = no_memory
fault_verdict (faults.NullId at) = placed 1 7 at

-- the verdict on a pool that breaks a rule, by the number of the refusal
abbrev pub refusal_verdict : Refusal → VtVerdict
refusal_verdict refusals.NoWorkingSet = placed 2 1 0
refusal_verdict refusals.TwoWorkingSets = placed 2 2 0
refusal_verdict (refusals.Missing parent id) = naming 3 0 parent id
refusal_verdict (refusals.WrongKind parent id) = naming 4 0 parent id
refusal_verdict (refusals.TooDeep chain) = placed 2 5 0
refusal_verdict (refusals.MacroBytes id) = naming 6 0 id NO_OBJECT
refusal_verdict (refusals.MacroCommand id at) = naming 7 at id NO_OBJECT
refusal_verdict (refusals.MacroMissing parent id) = naming 8 0 parent id
refusal_verdict (refusals.MacroKind parent id) = naming 9 0 parent id
refusal_verdict (refusals.MacroValue id at) = naming 10 at id NO_OBJECT
refusal_verdict (refusals.MacroCircle path) = placed 2 11 0
refusal_verdict (refusals.OverBudget id) = naming 12 0 id NO_OBJECT
refusal_verdict refusals.OutOfMemory = no_memory

abbrev pub verdict_of : NotAccepted → VtVerdict
verdict_of (why.Fault fault) = fault_verdict fault
verdict_of (why.Refused refusal) = refusal_verdict refusal

-- The verdict on these bytes: they are an accepted pool, or the first fault or refusal is told.
abbrev pub Judges : List ℕ → VtVerdict → Type 0
Judges bytes verdict =
    ((objects : Objects) × (IsAcceptedPool bytes objects × (verdict ≡ accepted_verdict (length objects))))
    ⊎ ((reason : NotAccepted) × (IsNotAccepted bytes reason × (verdict ≡ verdict_of reason)))
