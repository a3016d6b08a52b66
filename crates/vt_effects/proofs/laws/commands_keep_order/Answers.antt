use Rattle.vt_effects.proofs.lemmas.order.OrderAfterCommand.{commands_keep_order}
use Rattle.vt_effects.proofs.laws.commands_keep_order.Goals as goal

pub returns : goal.returns
returns c = commands_keep_order
