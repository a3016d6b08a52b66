pub mod EntryIndices
pub mod FieldSkips
pub mod FrontBytes
pub mod JoinedRecords
pub mod LastingFaults
pub mod NoFaultInCutRecord
pub mod ObjectsInForce
mod OneReading
mod Progress
pub mod ReadPosition
pub mod RecordSkips
pub mod RoundTrip
