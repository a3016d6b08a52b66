-- The definitions used in the contracts of log_expect.
pub mod Blessings
pub mod Differences
pub mod Expectations
pub mod Laws
pub mod LineTexts
pub mod Patterns
