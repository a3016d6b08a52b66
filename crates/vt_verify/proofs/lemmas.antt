-- The lemmas of vt_verify, by subject.
pub mod budgets
pub mod graphs
pub mod macros
pub mod references
pub mod rules
pub mod stores
