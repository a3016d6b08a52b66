-- The messages from the master of a set: their effects and replies, and the end of an upload.
pub mod CommandEffects
pub mod CommandReplies
pub mod Judgements
pub mod MessageEffects
pub mod UploadEnds
pub mod Verdicts
