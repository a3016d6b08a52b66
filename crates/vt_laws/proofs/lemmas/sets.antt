-- The list of sets after a claim and after a step, the holders of their addresses, and the selected and shown set.
pub mod ClaimsOfRun
pub mod NamesOfHolders
pub mod SelectedAndShownSet
pub mod SetsAfterClaim
pub mod SetsAfterStep
