use Rattle.vt_can.proofs.lemmas.lines.OneReading.{readings-one}
use Rattle.vt_can.proofs.laws.readings_are_one.Goals as goal

pub returns : goal.returns
returns c = readings-one
