-- References to existing objects of allowed kinds.
pub mod IncludedObjectsExist
pub mod ReferenceTests
