-- Invariants of every step, and runs of several inputs.
pub mod RunsOfInputs
pub mod StepInvariants
