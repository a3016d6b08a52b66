-- Definitions shared by both transport protocols.
pub mod Bus
pub mod FirstTimes
pub mod Histories
pub mod Marks
pub mod Messages
pub mod Protocols
pub mod Receivers
pub mod Sessions
pub mod Steps
pub mod Wire
