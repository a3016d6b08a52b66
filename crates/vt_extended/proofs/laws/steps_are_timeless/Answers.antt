use Rattle.vt_extended.proofs.StepsWithoutTimes.{timeless}
use Rattle.vt_extended.proofs.laws.steps_are_timeless.Goals as goal

pub returns : goal.returns
returns c = timeless
