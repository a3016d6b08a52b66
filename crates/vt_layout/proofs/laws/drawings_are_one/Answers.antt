use Rattle.vt_layout.proofs.PageLines.{one_drawing}
use Rattle.vt_layout.proofs.laws.drawings_are_one.Goals as goal

pub returns : goal.returns
returns c = one_drawing
