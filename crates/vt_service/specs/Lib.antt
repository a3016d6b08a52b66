-- Definitions cited by the contracts of vt_service.
pub mod Answers
pub mod Asking
pub mod Cells
pub mod Commands
pub mod Events
pub mod Lines
pub mod Members
pub mod Requests
pub mod Service
pub mod Values
