-- The specifications that the contracts of check_needs use.
pub mod Differences
pub mod Elements
pub mod Fonts
pub mod Loads
pub mod Naming
pub mod Needers
pub mod Needs
pub mod TextFields
pub mod Warnings
