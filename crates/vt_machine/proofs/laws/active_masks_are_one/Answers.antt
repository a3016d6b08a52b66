use Rattle.vt_machine.proofs.OneSet as sets
use Rattle.vt_machine.proofs.laws.active_masks_are_one.Goals as goal

pub returns : goal.returns
returns c = sets.active_masks_are_one
