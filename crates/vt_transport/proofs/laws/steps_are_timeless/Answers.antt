use Rattle.vt_transport.proofs.StepsWithoutTimes.{timeless}
use Rattle.vt_transport.proofs.laws.steps_are_timeless.Goals as goal

pub returns : goal.returns
returns c = timeless
