pub mod Causes
mod Entries
pub mod FromValues
pub mod Misfits
pub mod Numbers
pub mod ReadInvertsWrite
pub mod RecordHeads
pub mod ResultsOfReadRecord
pub mod Rows
pub mod Tables
