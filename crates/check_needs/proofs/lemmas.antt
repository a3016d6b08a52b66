-- The lemmas of check_needs, by subject.
pub mod Columns
pub mod Dearer
pub mod Ends
pub mod NamedIds
pub mod Objects
pub mod OutsideElements
pub mod SeenRecords
