pub mod Drawings
pub mod Lines
pub mod LookUps
pub mod PageTexts
pub mod Screens
pub mod Walks
