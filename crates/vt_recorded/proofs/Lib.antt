pub mod FrameForms
pub mod PlainReadings
pub mod OneReading
