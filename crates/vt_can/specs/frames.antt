-- Definitions of identifiers and frames.
pub mod Frame
pub mod Identifier
