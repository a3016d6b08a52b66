use Rattle.vt_tool_laws.proofs.FirstFault.{first_fault}
use Rattle.vt_tool_laws.proofs.first_is_the_fault.Goals as goal

pub returns : goal.returns
returns c = first_fault
