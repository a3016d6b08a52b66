-- The definitions used in the contracts of log_trace.
pub mod Changes
pub mod Lines
pub mod Traces
