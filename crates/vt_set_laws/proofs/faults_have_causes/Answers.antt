use Rattle.vt_set_laws.proofs.CausesFound.{causes_found}
use Rattle.vt_set_laws.proofs.faults_have_causes.Goals as goal

pub returns : goal.returns
returns c = causes_found
