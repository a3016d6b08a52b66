pub mod Looks
pub mod Queue
pub mod Takings
pub mod Written
