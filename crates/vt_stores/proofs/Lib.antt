pub mod BinarySearch
pub mod LinearSearch
pub mod ObjectShapes
pub mod SortedEntries
pub mod StoreMethods
