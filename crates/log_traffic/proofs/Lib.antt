-- The lemmas of log_traffic.
pub mod SeenBefore
pub mod Senders
