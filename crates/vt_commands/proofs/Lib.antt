mod EachRow
mod Naming
pub mod OneSplit
