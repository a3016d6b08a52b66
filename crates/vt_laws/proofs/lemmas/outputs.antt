-- The outputs of a step: their destinations, their kinds and their number.
pub mod FrameDestinations
pub mod FramesOfActs
pub mod OutputCount
pub mod Packets
