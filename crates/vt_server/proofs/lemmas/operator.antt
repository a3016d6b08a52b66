-- The operator's actions have the effects and the messages of their definitions.
pub mod ActionInput
pub mod ActionMessages
pub mod ActionStep
