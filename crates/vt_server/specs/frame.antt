-- The handling of a received frame: its effect on sessions, its timeouts, and the contracts of its calls.
pub mod Deadlines
pub mod FrameContracts
pub mod HoldersBeforeClaim
pub mod SessionEffects
pub mod TimeoutActs
pub mod TimeoutContracts
