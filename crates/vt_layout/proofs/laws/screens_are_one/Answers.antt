use Rattle.vt_layout.proofs.PageLines.{one_screen}
use Rattle.vt_layout.proofs.laws.screens_are_one.Goals as goal

pub returns : goal.returns
returns c = one_screen
