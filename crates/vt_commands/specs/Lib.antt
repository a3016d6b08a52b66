-- The specifications that the contracts of vt_commands use.
pub mod Commands
pub mod Events
pub mod Pieces
pub mod Rows
pub mod Targets
