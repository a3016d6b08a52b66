-- The definitions used in the contracts of vt_shown.
pub mod ShownElements
pub mod ShownMarks
