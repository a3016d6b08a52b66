-- The lemmas of vt_effects, by subject.
pub mod inclusions
pub mod looks
pub mod objects
pub mod order
pub mod stores
