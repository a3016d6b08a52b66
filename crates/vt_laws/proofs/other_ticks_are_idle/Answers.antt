use Rattle.vt_laws.proofs.lemmas.ticks.IdleTicks.{others-idle}
use Rattle.vt_laws.proofs.other_ticks_are_idle.Goals as goal

pub returns : goal.returns
returns c = others-idle c.parts_are_identifiers.ensures
