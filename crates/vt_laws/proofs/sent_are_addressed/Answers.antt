use Rattle.vt_laws.proofs.lemmas.outputs.OutputCount.{step-few}
use Rattle.vt_laws.proofs.lemmas.outputs.FrameDestinations.{step-sends}
use Rattle.vt_laws.proofs.sent_are_addressed.Goals as goal

pub returns : goal.returns
returns c = record { each = step-sends c.parts_are_identifiers.ensures; few = step-few }
