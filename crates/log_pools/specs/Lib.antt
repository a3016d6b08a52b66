-- The definitions used in the contracts of log_pools.
pub mod Pieces
pub mod Uploads
