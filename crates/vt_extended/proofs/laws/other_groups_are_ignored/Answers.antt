use Rattle.vt_extended.proofs.StepsWithoutTimes.{ignored}
use Rattle.vt_extended.proofs.laws.other_groups_are_ignored.Goals as goal

pub returns : goal.returns
returns c = ignored
