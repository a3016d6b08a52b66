pub mod Costs
pub mod Graphs
pub mod NodeSets
pub mod Paths
pub mod Searches
pub mod Tables
