use Rattle.std.proofs.Common.{◌∙◌, sym}
use Rattle.vt_can.specs.lines.Readings.{reading_of}
use Rattle.log_replay.specs.Interfaces.{of_another, taken}
use Rattle.log_replay.proofs.reader.LogReader.read.Goals as goal

pub returns-then-not-is_of_interface : goal.returns-then-not-is_of_interface
returns-then-not-is_of_interface c = of_another (sym c.is_of_interface.ensures ∙ c.if-not-is_of_interface.true)

pub returns : goal.returns
returns c = taken (reading_of c.in_ok-reading.reading) (sym c.is_of_interface.ensures ∙ c.if-not-is_of_interface.false) c.in_ok-reading.ensures
