-- Definitions cited by the contracts of vt_node.
pub mod AddressFunctions
pub mod Arrivals
pub mod Bus
pub mod Messages
pub mod Nodes
pub mod Profile
pub mod ReceiverResults
pub mod Registries
pub mod Watches
