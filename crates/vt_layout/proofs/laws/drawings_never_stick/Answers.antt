use Rattle.vt_layout.proofs.PathsAreChains.{never_sticks}
use Rattle.vt_layout.proofs.laws.drawings_never_stick.Goals as goal

pub returns : goal.returns
returns c = never_sticks
