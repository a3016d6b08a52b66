pub mod DrawnObjects
pub mod PairSets
pub mod Reaches
pub mod Reports
pub mod ShownMasks
