use Rattle.check_costs.proofs.Macros.{accepted_lemma}
use Rattle.check_costs.proofs.laws.accepted_costs_are_budgets.Goals as goal

pub returns : goal.returns
returns c = accepted_lemma
