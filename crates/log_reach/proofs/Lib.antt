pub mod PairSets
pub mod ShownMask
pub mod Splits
