-- Ticks, and what each step keeps.
pub mod Echoes
pub mod IdleTicks
pub mod Profiles
