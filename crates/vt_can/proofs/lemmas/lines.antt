-- Lemmas on log lines.
pub mod Actions
pub mod Digits
pub mod HexLanes
pub mod HexPairs
pub mod LineRoundTrip
pub mod OneReading
pub mod Places
pub mod Shape
pub mod UniqueSplit
pub mod UsualLine
pub mod WrittenDigits
