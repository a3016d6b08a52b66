use Rattle.vt_layout.proofs.ShownAreDrawn.{shown_drawn, drawn_shown}
use Rattle.vt_layout.proofs.laws.shown_are_drawn.Goals as goal

pub returns : goal.returns
returns c store mask drawing is id = (shown_drawn store mask drawing is id, drawn_shown store mask drawing is id)
