use Rattle.vt_machine.proofs.NullIsNoObject.{null_is_no_object}
use Rattle.vt_machine.proofs.laws.null_is_no_object.Goals as goal

pub returns : goal.returns
returns c = null_is_no_object
