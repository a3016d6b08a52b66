use Rattle.vt_tool_laws.proofs.FirstRefusal.{first_refusal}
use Rattle.vt_tool_laws.proofs.first_is_the_refusal.Goals as goal

pub returns : goal.returns
returns c = first_refusal
