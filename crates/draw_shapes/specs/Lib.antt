-- The definitions used in the contracts of draw_shapes.
pub mod Arcs
pub mod Bits
pub mod Ellipses
pub mod Fields
pub mod Gauges
pub mod Lines
pub mod Pens
pub mod Shapes
pub mod Texts
pub mod UsedPictures
