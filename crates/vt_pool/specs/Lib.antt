-- The specifications that the contracts of vt_pool use.
pub mod EntryWrites
pub mod FieldLayouts
pub mod Pools
pub mod PoolUploads
