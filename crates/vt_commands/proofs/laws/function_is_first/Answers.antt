use Rattle.vt_commands.proofs.Naming.{function_is_first}
use Rattle.vt_commands.proofs.laws.function_is_first.Goals as goal

pub returns : goal.returns
returns c = function_is_first
