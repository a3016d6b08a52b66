-- The specifications that the contracts of vt_objects use.
pub mod AttributeFields
pub mod Decimals
