-- The definitions used in the contracts of vt_set_laws.
pub mod AttributeWrites
pub mod CausesOfFaults
pub mod CommandKinds
pub mod CommandOrder
pub mod FaultsOfCommands
pub mod FieldWrites
pub mod MacroOrder
pub mod NewValues
pub mod PoolFaults
pub mod RaisedEvents
pub mod RefusalBits
