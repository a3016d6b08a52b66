use Rattle.vt_layout.proofs.PathsAreChains.{paths_chained}
use Rattle.vt_layout.proofs.laws.paths_are_chained.Goals as goal

pub returns : goal.returns
returns c = paths_chained
