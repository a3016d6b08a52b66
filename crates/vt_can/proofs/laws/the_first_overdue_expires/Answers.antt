use Rattle.vt_can.proofs.lemmas.transport.Overdue.{first_expires}
use Rattle.vt_can.proofs.laws.the_first_overdue_expires.Goals as goal

pub returns : goal.returns
returns g c = first_expires _ _
