-- Lemmas, by subject.
pub mod frames
pub mod lines
pub mod transport
