use Rattle.vt_set_laws.proofs.KindsOfChanges.{kinds_of_changes}
use Rattle.vt_set_laws.proofs.kinds_are_those_of_changes.Goals as goal

pub returns : goal.returns
returns c = kinds_of_changes
