pub mod ByAddress
pub mod EarliestTimes
pub mod FirstSilence
pub mod RestOfList
pub mod Sets
