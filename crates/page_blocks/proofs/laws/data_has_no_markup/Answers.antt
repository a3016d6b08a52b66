use Rattle.page_blocks.proofs.NoMarkup.{no_markup}
use Rattle.page_blocks.proofs.laws.data_has_no_markup.Goals as goal

pub returns : goal.returns
returns c = no_markup
