use Rattle.vt_macros.proofs.QuietRuns.{quiet_runs_keep_looks}
use Rattle.vt_macros.proofs.laws.quiet_runs_keep_looks.Goals as goal

pub returns : goal.returns
returns c = quiet_runs_keep_looks
