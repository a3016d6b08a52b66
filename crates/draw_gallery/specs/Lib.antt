-- The specifications that the contracts of draw_gallery use.
pub mod Html
pub mod Masks
pub mod StatesLeft
