pub mod Arcs
pub mod Gauges
pub mod NoIds
pub mod References
pub mod Rows
