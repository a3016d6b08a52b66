-- The definitions used in the contracts of vt_cli.
pub mod Addresses
pub mod Cells
pub mod Numbers
pub mod Refusals
pub mod Statuses
pub mod Texts
