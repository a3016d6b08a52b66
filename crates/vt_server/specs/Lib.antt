-- Definitions cited by the contracts of vt_server.
pub mod Judgements
pub mod frame
pub mod message
pub mod operator
pub mod Outputs
pub mod shown
pub mod state
pub mod States
pub mod Steps
pub mod Terminals
