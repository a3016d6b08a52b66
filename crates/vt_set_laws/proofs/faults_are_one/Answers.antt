use Rattle.vt_set_laws.proofs.OneFault.{faults-one}
use Rattle.vt_set_laws.proofs.faults_are_one.Goals as goal

pub returns : goal.returns
returns c = faults-one
