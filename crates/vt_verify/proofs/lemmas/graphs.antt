-- The graph of the triggers has the triggers and the costs of the pool.
pub mod EventGroups
pub mod OrderByRank
pub mod SameCosts
pub mod SameTriggers
