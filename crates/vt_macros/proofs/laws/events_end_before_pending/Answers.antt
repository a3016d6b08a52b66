use Rattle.vt_macros.proofs.EventByEvent.{events_end_before_pending}
use Rattle.vt_macros.proofs.laws.events_end_before_pending.Goals as goal

pub returns : goal.returns
returns c = events_end_before_pending
