pub mod Arrivals
pub mod Messages
pub mod Protocol
pub mod SessionState
pub mod Steps
pub mod Wire
