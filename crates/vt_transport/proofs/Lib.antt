pub mod Agreement
pub mod Assembly
pub mod Openings
pub mod Packets
pub mod SenderAnswers
pub mod SentMessageIsWhole
pub mod StepsWithoutTimes
