-- The state of the terminal after a write at one address, and after a preload.
pub mod PoolTableInvariant
pub mod StateAfterPreload
pub mod WritesByAddress
