-- The lemmas of check_changes.
pub mod Steps
pub mod Unchanged
