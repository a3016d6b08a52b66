-- The definitions used in the contracts of vt_machine.
pub mod OperatorActions
pub mod OperatorEntries
pub mod Replacements
pub mod SetStates
