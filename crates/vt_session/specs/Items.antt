-- What a host takes, as the code lends it.
use Rattle.vt_session.specs.Outputs as outputs
use Rattle.vt_session.specs.declared.outputs.HostItem.{HostItem}
use Rattle.vt_session.specs.declared.outputs.HostItem.TheVariants.{Sent, Told}

abbrev pub item_value : HostItem → outputs.HostItem
item_value (Sent output) = outputs.Sent output.now
item_value (Told event) = outputs.Told event
