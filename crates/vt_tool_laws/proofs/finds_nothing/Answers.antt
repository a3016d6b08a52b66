use Rattle.vt_tool_laws.proofs.Nothing.{nothing_found}
use Rattle.vt_tool_laws.proofs.finds_nothing.Goals as goal

pub returns : goal.returns
returns c = nothing_found
