use Rattle.vt_pool.proofs.LastingFaults.{faults_last}
use Rattle.vt_pool.proofs.laws.faults_last.Goals as goal

pub returns : goal.returns
returns c = faults_last
