-- Lemmas on both transport protocols.
pub mod Booleans
pub mod ByAddress
pub mod CallsAsSteps
pub mod FirstTimes
pub mod MarkedHistories
pub mod OneSource
pub mod OpenSessions
pub mod Overdue
pub mod Places
pub mod Runs
pub mod SessionsAfterAborts
pub mod TruncatedBytes
pub mod UntimedOutcomes
