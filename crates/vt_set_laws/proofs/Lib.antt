pub mod AllowedPointersAndItems
mod BitsOfRefusals
mod CausesFound
pub mod ChainTestPasses
pub mod DoneIfInOrder
mod EventsInTables
mod EventsOfCommands
pub mod EventsOfEntries
mod FieldsPerCommand
mod FilledTexts
mod JudgedChanges
mod KindsOfChanges
mod OneFault
pub mod OneFieldPerWrite
mod RefusedFaults
mod StandingTargets
pub mod TriggeredMacrosFirst
