-- The definitions used in the contracts of vt_macros.
pub mod Audio
pub mod AudioOfRuns
pub mod Indexes
pub mod Machines
pub mod NestedRuns
pub mod QuietMacros
pub mod Runs
