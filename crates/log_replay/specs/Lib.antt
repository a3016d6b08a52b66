-- The definitions used in the contracts of log_replay.
pub mod Interfaces
