use Rattle.check_changes.proofs.Unchanged.{one_record}
use Rattle.check_changes.proofs.laws.unchanged_records_are_equal.Goals as goal

pub returns : goal.returns
returns c = one_record
