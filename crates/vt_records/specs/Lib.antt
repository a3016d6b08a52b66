-- The specifications that the contracts of vt_records use.
pub mod Faults
pub mod FaultTexts
pub mod Heads
pub mod NoProperPrefix
pub mod RecordFaults
pub mod TableReads
