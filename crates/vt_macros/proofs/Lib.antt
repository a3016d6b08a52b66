pub mod EventByEvent
pub mod IndexGrowth
mod IndexOrder
pub mod MacroTargetsExist
pub mod QuietRuns
pub mod RunsEnd
pub mod SoundStoreVerified
pub mod StoreInOrder
pub mod StoreOfNestedRuns
