use Rattle.draw_svg.proofs.StrokesOfBytes.{one_stroke, own_pixels}
use Rattle.draw_svg.proofs.laws.strokes_are_the_pixels.Goals as goal

pub returns : goal.returns
returns c = record { own = own_pixels; one = one_stroke }
