-- Lemmas.
pub mod Each
pub mod Pairs
