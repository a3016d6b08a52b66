use Rattle.vt_can.proofs.lemmas.lines.LineRoundTrip.{lines-read}
use Rattle.vt_can.proofs.laws.written_lines_are_read.Goals as goal

pub returns : goal.returns
returns c = lines-read
