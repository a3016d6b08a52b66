use Rattle.vt_macros.proofs.EventByEvent.{events_end_in_turn}
use Rattle.vt_macros.proofs.laws.events_end_in_turn.Goals as goal

pub returns : goal.returns
returns c = events_end_in_turn
