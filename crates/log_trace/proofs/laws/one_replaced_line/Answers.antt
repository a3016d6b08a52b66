use Rattle.log_trace.proofs.OneDifference.{replaced-line}
use Rattle.log_trace.proofs.laws.one_replaced_line.Goals as goal

pub returns : goal.returns
returns c = replaced-line
