-- The lemmas of log_times.
pub mod Rhythms
pub mod Summaries
