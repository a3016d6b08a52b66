mod Differences
mod NumberedLines
mod OneDifference
mod OutputLines
mod PlainLines
mod ScreenLines
mod TracedInputs
mod TracedLines
