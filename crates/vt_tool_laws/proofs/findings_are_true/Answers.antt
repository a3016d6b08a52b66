use Rattle.vt_tool_laws.proofs.Truths.{all_true}
use Rattle.vt_tool_laws.proofs.findings_are_true.Goals as goal

pub returns : goal.returns
returns c = all_true
