-- The definitions used in the contracts of log_runs.
pub mod Pictures
