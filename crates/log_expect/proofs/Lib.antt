mod FirstExpected
mod FirstLine
mod KeptLines
mod LinesToCome
mod NoDifference
mod Patterns
mod TakenLine
