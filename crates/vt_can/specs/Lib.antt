pub mod Assigned
pub mod frames
pub mod lines
pub mod transport
