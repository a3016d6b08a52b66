pub mod Circles
pub mod Marks
pub mod ReducedGraphs
pub mod Results
