use Rattle.draw_svg.proofs.Places.{image_of_runs}
use Rattle.draw_svg.proofs.laws.runs_are_the_image.Goals as goal

pub returns : goal.returns
returns c = image_of_runs
