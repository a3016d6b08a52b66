use Rattle.log_trace.proofs.OneDifference.{changes-one}
use Rattle.log_trace.proofs.laws.changes_are_one.Goals as goal

pub returns : goal.returns
returns c = changes-one
