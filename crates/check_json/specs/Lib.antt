-- The specifications that the contracts of check_json use.
pub mod Json
pub mod Members
