-- The lemmas of vt_server, by subject.
pub mod acts
pub mod frame
pub mod message
pub mod operator
pub mod shown
pub mod state
pub mod steps
pub mod timeouts
