use Rattle.vt_commands.proofs.OneSplit.{cut_is_one}
use Rattle.vt_commands.proofs.laws.cut_is_one.Goals as goal

pub returns : goal.returns
returns c = cut_is_one
