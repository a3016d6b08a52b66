-- The definitions used in the contracts of check_circles.
pub mod Circles
pub mod ReducedGraphs
