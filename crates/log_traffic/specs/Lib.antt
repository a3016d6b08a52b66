-- The definitions used in the contracts of log_traffic.
pub mod Counted
pub mod Loads
pub mod Passages
pub mod Reports
pub mod Shares
pub mod Sightings
pub mod Spans
pub mod Traffics
