-- Inclusions after a command: no new ones except that of its other ID, and no long chains.
pub mod Levels
pub mod NewInclusions
pub mod ShortChains
