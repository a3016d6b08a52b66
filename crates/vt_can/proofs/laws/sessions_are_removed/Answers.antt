use Rattle.vt_can.proofs.lemmas.transport.Overdue.{session_removed}
use Rattle.vt_can.proofs.laws.sessions_are_removed.Goals as goal

pub returns : goal.returns
returns g c = session_removed
