use Rattle.vt_set_laws.proofs.EventsOfEntries.{new_values}
use Rattle.vt_set_laws.proofs.new_values_are_new.Goals as goal

pub returns : goal.returns
returns c = new_values
