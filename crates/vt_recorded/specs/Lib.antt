-- The definitions used in the contracts of vt_recorded.
pub mod Interfaces
pub mod PlainForms
pub mod Readings
