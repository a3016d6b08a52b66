-- The specifications that the contracts of vt_writing use.
pub mod Values
