pub mod DepthSearch
pub mod Elements
pub mod FallingLevels
pub mod IdIndices
pub mod InclusionsInStore
pub mod Maximum
pub mod Slots
