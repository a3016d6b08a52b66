use Rattle.vt_macros.proofs.RunsEnd.{runs_end}
use Rattle.vt_macros.proofs.laws.runs_end.Goals as goal

pub returns : goal.returns
returns c = runs_end
