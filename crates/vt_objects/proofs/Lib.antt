pub mod OneFieldPerAttribute
mod OneRounding
mod Rounding
