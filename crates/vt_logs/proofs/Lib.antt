mod AppendedText
mod EarlyEndInLines
mod EarlyEndOfLog
mod InputOfLine
mod LongLines
mod ReplayInvariants
pub mod SentByInputs
mod TakenLines
