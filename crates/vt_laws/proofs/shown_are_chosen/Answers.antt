use Rattle.vt_laws.proofs.lemmas.pools.PoolsOfSets.{are-chosen}
use Rattle.vt_laws.proofs.shown_are_chosen.Goals as goal

pub returns : goal.returns
returns c = are-chosen
