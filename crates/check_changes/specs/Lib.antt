-- The specifications that the contracts of check_changes use.
pub mod ChangedFields
pub mod Changes
pub mod FieldNames
pub mod Laws
pub mod Names
