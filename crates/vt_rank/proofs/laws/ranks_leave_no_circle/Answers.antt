use Rattle.vt_rank.proofs.PathsAndCircles.{no_circle}
use Rattle.vt_rank.proofs.laws.ranks_leave_no_circle.Goals as goal

pub returns : goal.returns
returns c = λ g ranks falls. no_circle g ranks falls
