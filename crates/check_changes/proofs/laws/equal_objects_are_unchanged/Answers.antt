use Rattle.check_changes.proofs.Unchanged.{own_unchanged}
use Rattle.check_changes.proofs.laws.equal_objects_are_unchanged.Goals as goal

pub returns : goal.returns
returns c = own_unchanged
