-- Lemmas.
pub mod Depths
pub mod Listed
pub mod Served
