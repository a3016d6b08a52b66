-- The reading of a line of a log, of all interfaces or of one.
use Rattle.std.specs.Prelude.{◌≡◌, true, false, ℕ, Option, List, Result, Ok}
use Rattle.std.specs.Option.{option_map}
use Rattle.vt_can.specs.declared.lines.line.LineFault.{LineFault}
use Rattle.vt_can.specs.lines.Readings.{ParsedLine, CommentLine}
use Rattle.log_replay.specs.declared.reader.LogReader.{LogReader}
use Rattle.vt_recorded.specs.Interfaces.{is_of_interface}
use Rattle.vt_recorded.specs.Readings.{IsReadingOf}

-- a line of another interface counts as a comment
pub data IsReadingFrom (wanted : Option (List ℕ)) (line : List ℕ) : Result ParsedLine LineFault → Type 0 where
  taken : (reading : Result ParsedLine LineFault) → is_of_interface wanted line ≡ true → IsReadingOf line reading → IsReadingFrom wanted line reading
  of_another : is_of_interface wanted line ≡ false → IsReadingFrom wanted line (Ok CommentLine)

-- the interface that a reader wants
abbrev pub wanted : LogReader → Option (List ℕ)
wanted reader = option_map (λ name. name.now) reader.interface
