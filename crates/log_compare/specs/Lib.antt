-- The definitions used in the contracts of log_compare.
pub mod LeftOut
