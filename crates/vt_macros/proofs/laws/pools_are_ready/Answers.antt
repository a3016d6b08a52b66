use Rattle.vt_macros.proofs.StoreInOrder.{pools_are_ready}
use Rattle.vt_macros.proofs.laws.pools_are_ready.Goals as goal

pub returns : goal.returns
returns c = pools_are_ready
