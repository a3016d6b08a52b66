-- The specifications that the contracts of vt_chains use.
pub mod Certificates
pub mod Depths
pub mod Inclusions
pub mod Limits
