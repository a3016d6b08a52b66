pub mod Assembly
pub mod DpoAndDtSteps
pub mod Histories
pub mod Openings
pub mod SessionOfHistory
pub mod StepsWithoutTimes
