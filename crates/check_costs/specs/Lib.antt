-- The definitions used in the contracts of check_costs.
pub mod Breakdowns
pub mod CostedPools
pub mod Runnable
pub mod Shares
pub mod Sums
