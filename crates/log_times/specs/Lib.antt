-- The definitions used in the contracts of log_times.
pub mod Rhythms
pub mod Summaries
