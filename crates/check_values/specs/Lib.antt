-- The specifications that the contracts of check_values use.
pub mod Entries
pub mod Fields
pub mod Inputs
pub mod Listed
pub mod Names
pub mod Pictures
pub mod Polygons
pub mod Ranges
pub mod Subjects
pub mod Texts
pub mod ValueWarnings
pub mod WorkingSets
