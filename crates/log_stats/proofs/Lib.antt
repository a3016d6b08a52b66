-- The lemmas of log_stats.
pub mod BusiestSecond
pub mod Seconds
