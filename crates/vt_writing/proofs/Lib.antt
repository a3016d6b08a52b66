-- The lemmas of vt_writing.
pub mod Fitting
pub mod Spelling
