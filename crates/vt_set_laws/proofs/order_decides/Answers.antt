use Rattle.vt_set_laws.proofs.DoneIfInOrder.{decided}
use Rattle.vt_set_laws.proofs.order_decides.Goals as goal

pub returns : goal.returns
returns c = decided c.commands_keep_order.ensures
