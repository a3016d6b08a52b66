-- The store after a command: one changed object, and an unchanged shape.
pub mod CommandExecution
pub mod IdReplacements
pub mod ObjectBeforeAndAfter
pub mod OneChangedObject
pub mod SameShape
pub mod StoreAfterCommand
