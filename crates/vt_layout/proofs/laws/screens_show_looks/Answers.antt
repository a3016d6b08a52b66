use Rattle.vt_layout.proofs.ScreensOfLooks.{screens_show_looks}
use Rattle.vt_layout.proofs.laws.screens_show_looks.Goals as goal

pub returns : goal.returns
returns c = screens_show_looks
