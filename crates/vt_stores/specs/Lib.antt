-- The specifications that the contracts of vt_stores use.
pub mod LentObjects
pub mod Shapes
pub mod Stores
