-- Definitions of the replay of a log.
pub mod EarlyEnds
pub mod LineEffects
pub mod Lines
pub mod Progress
pub mod Replays
pub mod Texts
