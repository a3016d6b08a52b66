use Rattle.check_costs.proofs.Macros.{costs_add_up_lemma}
use Rattle.check_costs.proofs.laws.costs_add_up.Goals as goal

pub returns : goal.returns
returns c = costs_add_up_lemma
