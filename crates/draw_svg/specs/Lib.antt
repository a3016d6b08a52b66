-- The definitions used in the contracts of draw_svg.
pub mod Attributes
pub mod Characters
pub mod Elements
pub mod FilledRows
pub mod Formats
pub mod ImageLaws
pub mod Images
pub mod Laws
pub mod Palette
pub mod Rasters
pub mod StrokeLaws
pub mod Strokes
