-- The runs of macros that an input begins: their causes, their number, their cost and their end.
pub mod AtMostThreeEvents
pub mod AtMostThreeRuns
pub mod CausesOfRuns
pub mod CostWithinBudgets
pub mod NoRunSticks
pub mod RunsOfActsEnd
