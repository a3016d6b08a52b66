pub mod DrawnElements
pub mod Searches
