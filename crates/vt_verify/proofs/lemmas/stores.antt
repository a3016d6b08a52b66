-- The objects of a pool and of an updated store.
pub mod DistinctIds
pub mod UpdatedStore
