pub mod Bytes
pub mod Entries
pub mod InForce
pub mod Readings
