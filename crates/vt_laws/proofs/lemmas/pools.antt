-- The pool of each address after an act, a step and a run.
pub mod FramesOfOthers
pub mod MessagesWithoutCommands
pub mod PoolAfterAct
pub mod PoolAfterStep
pub mod PoolOfSource
pub mod PoolsInForce
pub mod PoolsOfSets
