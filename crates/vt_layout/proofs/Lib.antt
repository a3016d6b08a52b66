pub mod EntriesOnPage
pub mod EntryWalk
pub mod LookUpsSucceed
pub mod PageLines
pub mod PathsAreChains
pub mod ScreensOfLooks
pub mod ShownAreDrawn
pub mod SortedPaths
