use Rattle.vt_can.specs.lines.Readings.{reading_of}
use Rattle.vt_can.proofs.laws.lines_have_readings.Goals as goal

pub returns : goal.returns
returns c = (reading_of c.parse_line.result, c.parse_line.ensures)
