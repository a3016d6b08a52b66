use Rattle.vt_laws.proofs.lemmas.pools.PoolAfterStep.{of-steps}
use Rattle.vt_laws.proofs.runs_are_of_steps.Goals as goal

pub returns : goal.returns
returns c = of-steps
