-- The line of a pool's fault (docs/PROFILE.md, "The line of a fault").
use Rattle.std.specs.Prelude.{ℕ, List, ◌++◌, codes}
use Rattle.std.specs.Fmt.{decimal}
use Rattle.vt_records.specs.declared.fault.PoolFault.{PoolFault}
use Rattle.vt_records.specs.declared.fault.PoolFault.TheVariants as faults

-- the fault's number, name and byte index
abbrev pub fault_text : PoolFault → List ℕ
fault_text (faults.Truncated at) = codes "fault 1 Truncated at " ++ decimal at
fault_text (faults.UnknownType at) = codes "fault 2 UnknownType at " ++ decimal at
fault_text (faults.LeftOutType at) = codes "fault 3 LeftOutType at " ++ decimal at
fault_text (faults.Scale at) = codes "fault 4 Scale at " ++ decimal at
fault_text (faults.Decimals at) = codes "fault 5 Decimals at " ++ decimal at
fault_text (faults.OutOfMemory at) = codes "fault 6 OutOfMemory at " ++ decimal at
fault_text (faults.NullId at) = codes "fault 7 NullId at " ++ decimal at
