-- Right judgements of pools give one step, and right verdicts one reply.
pub mod OneStep
pub mod OneVerdict
