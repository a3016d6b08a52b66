use Rattle.vt_pool.proofs.OneReading.{readings_one}
use Rattle.vt_pool.proofs.laws.readings_are_one.Goals as goal

pub returns : goal.returns
returns c = readings_one
