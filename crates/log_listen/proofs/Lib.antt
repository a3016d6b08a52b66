-- The lemmas of log_listen.
pub mod Channels
pub mod Entries
pub mod Fronts
pub mod Hearing
pub mod Maps
pub mod Packets
pub mod Places
pub mod Requests
