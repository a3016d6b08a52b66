-- Definitions of log lines, by subject.
pub mod Actions
pub mod Fields
pub mod Line
pub mod Readings
pub mod WrittenForms
