-- The definitions used in the contracts of check_reading.
pub mod Passed
pub mod Readings
