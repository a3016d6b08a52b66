-- The definitions used in the contracts of log_order.
pub mod Turns
