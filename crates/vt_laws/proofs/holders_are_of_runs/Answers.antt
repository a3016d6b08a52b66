use Rattle.vt_laws.proofs.lemmas.sets.ClaimsOfRun.{holders}
use Rattle.vt_laws.proofs.holders_are_of_runs.Goals as goal

pub returns : goal.returns
returns c = holders c.holders_are_least.ensures
