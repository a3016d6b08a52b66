pub mod ClosedPictures
pub mod Listed
pub mod ListedSpots
pub mod Walked
pub mod WrittenPictures
