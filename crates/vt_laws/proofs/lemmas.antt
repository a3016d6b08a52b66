-- The lemmas of vt_laws, by subject.
pub mod judgements
pub mod outputs
pub mod pools
pub mod runs
pub mod sets
pub mod ticks
pub mod views
