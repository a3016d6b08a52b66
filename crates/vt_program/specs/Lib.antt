-- Definitions of the program, its words and its runs.
pub mod Runs
pub mod Words
