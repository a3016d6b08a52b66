-- Timeouts of sessions and closings of silent sets at the time of a frame.
pub mod DueTimes
pub mod FirstSilentSet
pub mod IndependenceOfClaims
pub mod SessionLanes
pub mod SessionTimeouts
pub mod SilentSets
