use Rattle.vt_effects.proofs.lemmas.looks.SameLook.{looks_are_kept}
use Rattle.vt_effects.proofs.laws.looks_are_kept.Goals as goal

pub returns : goal.returns
returns c = looks_are_kept
