-- The lemmas of page_blocks.
pub mod NoMarkup
