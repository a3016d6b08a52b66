-- The bytes of a macro and the tests of its commands.
pub mod CommandTests
pub mod MacroBytes
pub mod PieceByPiece
