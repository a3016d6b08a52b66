-- The definitions used in the contracts of log_stats.
pub mod Seconds
