-- The view of an address depends on the happenings of that address alone.
pub mod ActChangesOneView
pub mod HappeningsDecideView
pub mod HappeningsOfFrame
pub mod OutcomesWithoutTimes
pub mod ResponsesInSequence
pub mod TimeoutsAtAddress
pub mod ViewsAfterSteps
