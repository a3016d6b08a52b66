-- Definitions cited by the contracts of vt_session.
pub mod Calls
pub mod Dialogs
pub mod Events
pub mod Inputs
pub mod Items
pub mod Looks
pub mod Outputs
pub mod Preloads
pub mod Readings
pub mod Sessions
pub mod Statuses
pub mod Words
