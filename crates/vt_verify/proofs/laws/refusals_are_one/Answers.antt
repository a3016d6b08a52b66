use Rattle.vt_verify.proofs.lemmas.rules.OneRefusal.{refusals_one}
use Rattle.vt_verify.proofs.laws.refusals_are_one.Goals as goal

pub returns : goal.returns
returns c = refusals_one
