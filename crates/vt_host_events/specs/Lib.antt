-- Definitions cited by the contracts of vt_host_events.
pub mod Events
pub mod Seen
