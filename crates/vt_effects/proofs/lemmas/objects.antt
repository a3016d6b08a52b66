-- The effect of a command on its object: its fields, its entries, and the unchanged kind and macros.
pub mod AttributeChanges
pub mod ChildMoves
pub mod EntryChanges
pub mod FieldTests
pub mod KindAndReferences
