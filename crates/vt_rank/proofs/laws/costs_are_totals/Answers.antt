use Rattle.vt_rank.proofs.Totals.{costs_are_totals}
use Rattle.vt_rank.proofs.laws.costs_are_totals.Goals as goal

pub returns : goal.returns
returns c = λ g ranks are. costs_are_totals g ranks are
