use Rattle.vt_tool_laws.proofs.Culprits.{none_left_out}
use Rattle.vt_tool_laws.proofs.no_culprit_is_left_out.Goals as goal

pub returns : goal.returns
returns c = none_left_out
