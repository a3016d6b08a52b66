-- Lemmas on identifiers.
pub mod Sums
