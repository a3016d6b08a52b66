use Rattle.vt_set_laws.proofs.EventsInTables.{events_raised}
use Rattle.vt_set_laws.proofs.events_are_raised.Goals as goal

pub returns : goal.returns
returns c = events_raised
