use Rattle.vt_layout.proofs.LookUpsSucceed.{finds_all}
use Rattle.vt_layout.proofs.laws.drawings_find_all.Goals as goal

pub returns : goal.returns
returns c = finds_all
