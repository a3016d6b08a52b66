-- The definitions used in the contracts of log_listen.
pub mod Channels
pub mod Parts
pub mod Transfers
pub mod Listeners
pub mod Steps
