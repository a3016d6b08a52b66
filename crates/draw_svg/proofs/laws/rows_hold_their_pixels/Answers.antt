use Rattle.draw_svg.proofs.Places.{pixels_in_rows}
use Rattle.draw_svg.proofs.laws.rows_hold_their_pixels.Goals as goal

pub returns : goal.returns
returns c = pixels_in_rows
