-- The definitions used in the contracts of log_bench.
pub mod Statuses
