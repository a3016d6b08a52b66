use Rattle.vt_laws.proofs.lemmas.runs.CostWithinBudgets.{costs-within}
use Rattle.vt_laws.proofs.costs_are_within.Goals as goal

pub returns : goal.returns
returns c = costs-within c.the_machine_never_sticks.ensures c.pools_are_ready.ensures
