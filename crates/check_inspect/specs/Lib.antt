-- The definitions used in the contracts of check_inspect.
pub mod Costs
pub mod Findings
pub mod Inspections
pub mod Lists
pub mod Missing
pub mod Places
pub mod References
