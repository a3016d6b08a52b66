use Rattle.vt_set_laws.proofs.TriggeredMacrosFirst.{stand-before}
use Rattle.vt_set_laws.proofs.triggered_stand_before.Goals as goal

pub returns : goal.returns
returns c = stand-before
