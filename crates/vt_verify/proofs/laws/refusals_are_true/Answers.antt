use Rattle.vt_verify.proofs.lemmas.rules.NoRefusal.{refusals_true}
use Rattle.vt_verify.proofs.laws.refusals_are_true.Goals as goal

pub returns : goal.returns
returns c = refusals_true
