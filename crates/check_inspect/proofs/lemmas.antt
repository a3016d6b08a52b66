pub mod Appends
pub mod Closed
pub mod Commands
pub mod Missing
pub mod Objects
pub mod OverBudget
pub mod Whole
pub mod WorkingSets
