-- Messages from the master of a set have the effects and the replies of their definitions.
pub mod EffectsAndReplies
pub mod MessageCalls
pub mod RefusedUpload
