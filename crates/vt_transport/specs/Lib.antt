pub mod Arrivals
pub mod BothEnds
pub mod Messages
pub mod Protocol
pub mod Senders
pub mod SessionState
pub mod Steps
pub mod Wire
