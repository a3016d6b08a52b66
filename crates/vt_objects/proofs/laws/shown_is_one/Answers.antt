use Rattle.vt_objects.proofs.OneRounding.{shown_one}
use Rattle.vt_objects.proofs.laws.shown_is_one.Goals as goal

pub returns : goal.returns
returns c = shown_one
