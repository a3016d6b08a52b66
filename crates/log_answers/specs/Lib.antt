-- The definitions used in the contracts of log_answers.
pub mod Topics
pub mod Messages
pub mod OpenQuestions
pub mod Tellings
pub mod Conversations
pub mod Matches
pub mod Compared
pub mod Comparisons
pub mod Laws
