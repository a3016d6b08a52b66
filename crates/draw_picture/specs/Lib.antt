-- The definitions used in the contracts of draw_picture.
pub mod Documents
pub mod Frames
pub mod Listings
pub mod Marks
pub mod NearPlaces
pub mod Parts
pub mod Pictures
pub mod Tags
