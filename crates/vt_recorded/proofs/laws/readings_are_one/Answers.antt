use Rattle.vt_recorded.proofs.OneReading.{readings-one}
use Rattle.vt_recorded.proofs.laws.readings_are_one.Goals as goal

pub returns : goal.returns
returns c = readings-one c.readings_are_one.ensures
