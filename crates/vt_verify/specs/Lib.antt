-- The definitions used in the contracts of vt_verify.
pub mod Budgets
pub mod Lists
pub mod Macros
pub mod Orders
pub mod References
pub mod Reports
pub mod Rules
pub mod Targets
pub mod TriggerGraphs
pub mod Triggers
pub mod Updates
