pub mod AppendedNodes
pub mod Bits
pub mod ClosedImages
pub mod FilledRows
pub mod Followed
pub mod NoMarkup
pub mod Places
mod StrokesOfBytes
