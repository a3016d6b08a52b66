-- The definitions used in the contracts of page_blocks.
pub mod Escapes
pub mod Laws
