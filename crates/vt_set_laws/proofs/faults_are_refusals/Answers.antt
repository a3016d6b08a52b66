use Rattle.vt_set_laws.proofs.RefusedFaults.{faults_refused}
use Rattle.vt_set_laws.proofs.faults_are_refusals.Goals as goal

pub returns : goal.returns
returns c = faults_refused
