-- The specifications that the contracts of check_text use.
pub mod Circles
pub mod Clashes
pub mod Codes
pub mod Events
pub mod Labels
pub mod Messages
pub mod Severities
pub mod Spots
