-- The operator's actions: their effects, messages and refusals.
pub mod ActionContracts
pub mod ActionEffects
