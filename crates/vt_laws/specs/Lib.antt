-- Definitions cited by the laws of vt_laws.
pub mod Costs
pub mod Destinations
pub mod Happenings
pub mod Headline
pub mod ReceivedClaims
pub mod RepliesInRows
pub mod Responses
pub mod RunsOfSteps
pub mod SetLists
pub mod ShownSets
pub mod Ticks
pub mod UniqueSteps
