use Rattle.draw_svg.proofs.NoMarkup.{no_markup}
use Rattle.draw_svg.proofs.laws.characters_are_no_markup.Goals as goal

pub returns : goal.returns
returns c = no_markup
