-- The meaning of a record's stop, and the pool fault that it becomes.
use Rattle.std.specs.Prelude.{ℕ, ◌+◌, List}
use Rattle.vt_kinds.specs.Layout.{ScaleBytes, DecimalPlaces}
use Rattle.vt_records.specs.declared.record_fault.RecordFault.{RecordFault}
use Rattle.vt_records.specs.declared.record_fault.RecordFault.TheVariants as stops
use Rattle.vt_records.specs.declared.fault.PoolFault.{PoolFault}
use Rattle.vt_records.specs.declared.fault.PoolFault.TheVariants as faults
use Rattle.vt_records.specs.Faults.{IsTruncated, HasNullId, HasOtherType, IsLeftOut, IsImproper, type_at}

-- a stop is the cause for which bytes begin with no record
abbrev pub IsStop : List ℕ → RecordFault → Type 0
IsStop rest stops.Truncated = IsTruncated rest
IsStop rest stops.NullId = HasNullId rest
IsStop rest stops.LeftOutType = HasOtherType rest × IsLeftOut (type_at rest)
IsStop rest stops.UnknownType = HasOtherType rest × (IsLeftOut (type_at rest) → ⊥)
IsStop rest (stops.Scale at) = IsImproper ScaleBytes rest at
IsStop rest (stops.Decimals at) = IsImproper DecimalPlaces rest at
IsStop rest stops.OutOfMemory = Unit {0}

-- the pool fault of a record's stop; for a scale and decimals at the field, else at the record
abbrev pub fault_at : RecordFault → ℕ → PoolFault
fault_at stops.Truncated at = faults.Truncated at
fault_at stops.UnknownType at = faults.UnknownType at
fault_at stops.LeftOutType at = faults.LeftOutType at
fault_at (stops.Scale offset) at = faults.Scale (at + offset)
fault_at (stops.Decimals offset) at = faults.Decimals (at + offset)
fault_at stops.OutOfMemory at = faults.OutOfMemory at
fault_at stops.NullId at = faults.NullId at
