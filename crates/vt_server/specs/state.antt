-- The state kept for each address, its view, and the invariants of all terminals.
pub mod AddressStates
pub mod AddressViews
pub mod PoolTables
pub mod StateInvariants
