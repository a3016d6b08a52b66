use Rattle.check_changes.proofs.Unchanged.{one_name_each}
use Rattle.check_changes.proofs.laws.each_value_is_named.Goals as goal

pub returns : goal.returns
returns c = one_name_each
