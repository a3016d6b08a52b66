use Rattle.log_trace.proofs.OneDifference.{same-none}
use Rattle.log_trace.proofs.laws.same_lines_have_none.Goals as goal

pub returns : goal.returns
returns c = same-none
