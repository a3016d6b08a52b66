-- Definitions cited by the contracts of vt_names.
pub mod Claims
pub mod Names
pub mod Registrations
pub mod Registry
