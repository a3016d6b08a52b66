-- The acts of a step: lists of acts, their addresses, and the acts of a claim.
pub mod ActLists
pub mod AddressedActs
pub mod ComposedActs
pub mod HolderChanges
