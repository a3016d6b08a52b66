-- The specifications that the contracts of vt_kinds use.
pub mod Attributes
pub mod Ids
pub mod Kinds
pub mod Layout
pub mod Records
pub mod References
pub mod RemainingSlots
pub mod Scales
pub mod Tables
pub mod Texts
