-- The rules of an acceptable pool, and the unique refusal of a pool that breaks one.
pub mod Acceptance
pub mod FirstFailure
pub mod NoRefusal
pub mod OneRefusal
