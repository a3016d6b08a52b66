use Rattle.vt_names.proofs.RegistryAfterChanges.{registered}
use Rattle.vt_names.proofs.laws.sets_are_registered.Goals as goal

pub returns : goal.returns
returns c = registered
