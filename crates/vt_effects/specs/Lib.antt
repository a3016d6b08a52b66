-- The definitions used in the contracts of vt_effects.
pub mod Changes
pub mod Effects
pub mod Errors
pub mod Fields
pub mod Looks
pub mod Replacements
pub mod Soundness
